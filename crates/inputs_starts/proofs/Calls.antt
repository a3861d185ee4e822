-- For the calls that start from a lent marking: what is known of the file in which it stands, and how they are refused.
use Prim.Native.Nat.{ℕ, ◌<◌}
use mathlib.Core.List.{List}
use mathlib.Core.Path.{◌≡◌, sym, ap, subst⁻¹}
use lib.ListN.{length}
use Rattle.file_words.specs.Word.{byte_at, Bytes}
use Rattle.file_words.proofs.Laws.{or_else_stop}
use Rattle.file_header.specs.declared.Due.{Due}
use Rattle.file_header.specs.declared.Header.{Header}
use Rattle.file.specs.Layout.{net_from}
use Rattle.file.specs.Refusal.{file_refusal}
use Rattle.file.specs.Facts.{Opened}
use Rattle.promise.specs.Together.{standing}
use Rattle.promise.specs.Starts.{starting_at, start_refusal, started_from, started, from_refusal}
use Rattle.promise.proofs.Started.{started-opened, started-from, start_length}
use Rattle.inputs_starts.specs.Startable.{Startable}

-- the file in which the start stands can be read as the file can
pub opened_from : {d : Due} {s : List ℕ} {h : Header} {start : List ℕ} → Startable d s h start → ((i : ℕ) → byte_at s i < 256) → Opened d (started_from s h start) h
unfolding Bytes
opened_from {d} {s} {h} {start} r b = started-opened d s h start b r.opened r.passes

pub entries : {d : Due} {s : List ℕ} {h : Header} {start : List ℕ} → Startable d s h start → length start ≡ h.places
entries {d} {s} {h} {start} r = start_length (net_from s h) start r.passes

-- it is the file that the promise speaks of
pub same_file : {d : Due} {s : List ℕ} {h : Header} (start : List ℕ) → Opened d s h → started_from s h start ≡ started s start
same_file {s = s} start o = ap (λ (g : Header). started_from s g start) o.same

-- refused by the file, by the start, or not
pub by_file : (d : Due) (s start : List ℕ) {n : ℕ} → file_refusal d s ≡ n → (n ≡ 0 → ⊥) → from_refusal d s start ≡ n
unfolding from_refusal
by_file d s start {n} e z = rw e (or_else_stop n _ z)

pub by_start : (d : Due) (s : List ℕ) (h : Header) (start : List ℕ) {n : ℕ} → Opened d s h → n ≡ start_refusal (net_from s h) start → from_refusal d s start ≡ n
unfolding from_refusal
by_start d s h start o e = rw (o.read, ← o.same) (sym e)

-- its net: the file's own, from the start
pub started-at : {d : Due} {s : List ℕ} {h : Header} {start : List ℕ} → Startable d s h start → ((i : ℕ) → byte_at s i < 256) → net_from (started_from s h start) h ≡ starting_at (standing start) (net_from s h)
unfolding Bytes
started-at {d} {s} {h} {start} r b =
    subst⁻¹ (λ (g : Header). start_refusal (net_from s g) start ≡ 0 → net_from (started_from s g start) g ≡ starting_at (standing start) (net_from s g)) r.opened.same
    (λ ok. started-from d s b r.opened.read start ok) r.passes
