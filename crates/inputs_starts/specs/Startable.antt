-- What a call knows of its file and its start once neither is refused.
use Rattle.std.specs.Prelude.{ℕ, List, ◌≡◌}
use Rattle.file.specs.Layout.{net_from}
use Rattle.file.specs.Facts.{Opened}
use Rattle.file_header.specs.declared.Due.{Due}
use Rattle.file_header.specs.declared.Header.{Header}
use Rattle.promise.specs.Starts.{start_refusal}

pub record Startable (d : Due) (s : List ℕ) (h : Header) (start : List ℕ) : Type 0 where
  pub opened : Opened d s h
  pub passes : start_refusal (net_from s h) start ≡ 0
