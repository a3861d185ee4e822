-- Refusals by their numbers; of them those of a table (8 of document 01) and of places with caps (16 of document 02).
use Rattle.std.specs.Prelude.{ℕ, zero, suc, ◌+◌, List, Bool, true, false, not, ◌&&◌, eqb, ltb}
use Rattle.file_words.specs.Word.{le16, le32}

-- a broken rule's number, or what the rules after it say
abbrev pub refuse : Bool → ℕ → ℕ → ℕ
refuse true n rest = n
refuse false n rest = rest

-- the first of two refusals
abbrev pub or_else : ℕ → ℕ → ℕ
or_else zero b = b
or_else (suc a) b = suc a

-- 8: "a table not strictly rising": n numbers in a row, of which the first may not be below `least`
unfoldable pub table_refusal : List ℕ → ℕ → ℕ → ℕ → ℕ
table_refusal s at least zero = 0
table_refusal s at least (suc n) = refuse (ltb (le16 s at) least) 8 (table_refusal s (at + 2) (le16 s at + 1) n)

-- "a marking above a cap that isn't 0"
abbrev pub over_cap : ℕ → ℕ → Bool
over_cap marking cap = not (eqb cap 0) && ltb cap marking

-- 16 for n places in a row, marking and cap
unfoldable pub caps_refusal : List ℕ → ℕ → ℕ → ℕ
caps_refusal s at zero = 0
caps_refusal s at (suc n) = refuse (over_cap (le32 s at) (le32 s (at + 4))) 16 (caps_refusal s (at + 8) n)
