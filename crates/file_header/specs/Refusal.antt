-- Why a file cannot be read, by its trailer: refusals 2 to 5 of document 01.
use Rattle.std.specs.Prelude.{ℕ, ◌-◌, Bool, not, ◌||◌, ◌&&◌, eqb, ltb}
use Rattle.file_words.specs.Refusal.{refuse}
use Rattle.file_header.specs.Layout.{body_length}
use Rattle.file_header.specs.declared.Trailer.{Trailer}
use Rattle.file_header.specs.declared.Due.{Due}
use Rattle.file_header.specs.declared.Due.TheVariants.{Plan, Slice, Either}

-- "edition (1), always 1"; "2 now lets edition 2 pass" (document 02, A9)
abbrev pub edition_wrong : ℕ → Bool
edition_wrong edition = not (eqb edition 1) && not (eqb edition 2)

-- 2: "letters or edition wrong"; the letters are 42 45 4C 4C, low byte first
abbrev pub letters_wrong : Trailer → Bool
letters_wrong t = not (eqb t.letters 0x4C4C4542) || edition_wrong t.edition

-- 3: "kind above 1, or not the kind due"
abbrev pub kind_wrong : Due → ℕ → Bool
kind_wrong Plan k = not (eqb k 0)
kind_wrong Slice k = not (eqb k 1)
kind_wrong Either k = ltb 1 k

-- 4: "P, T or A above its limit, or P and T both 0"; "4 lets an empty slice pass, an empty plan not": by the file's own kind, whichever is due
abbrev pub counts_wrong : Trailer → Bool
counts_wrong t =
    ltb 1024 t.places || ltb 1024 t.transitions || ltb 4096 t.arcs || (eqb t.places 0 && eqb t.transitions 0 && eqb t.kind 0)

-- 5: "body length not as computed, or above file length less 16"
abbrev pub body_wrong : ℕ → Trailer → Bool
body_wrong n t = not (eqb t.body (body_length t)) || ltb (n - 16) t.body

-- the trailer's refusals, in a file of n bytes: "the lower number comes first"
unfoldable pub trailer_refusal : Due → ℕ → Trailer → ℕ
trailer_refusal due n t =
    refuse (letters_wrong t) 2 (refuse (kind_wrong due t.kind) 3 (refuse (counts_wrong t) 4 (refuse (body_wrong n t) 5 0)))
