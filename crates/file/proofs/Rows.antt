-- Arcs of a file that was read, and numbers that stand in a row in a file, by their index.
use Prim.Native.Nat.{ℕ, zero, suc, ◌+◌, ◌*◌, ◌≤◌, ◌<◌}
use mathlib.Core.Path.{◌≡◌, refl, ap, ◌∙◌}
use mathlib.Core.List.{List, [], ◌∷◌}
use native.Mathlib.Omega.{arith}
use lib.ListN.{length, get_or}
use Rattle.net.specs.Numbers.{Rising}
use Rattle.file_words.specs.Word.{le16}
use Rattle.file_arcs.specs.Layout.{arc_at}
use Rattle.file_arcs.specs.Facts.{ArcGood}
use Rattle.file_arcs.proofs.Rows.{range_at}
use Rattle.file_header.specs.declared.Header.{Header}
use Rattle.file.specs.Layout.{words_from}
use Rattle.file.specs.Facts.{RisingFrom, Sound}

-- each arc of a file that was read is in range
pub good_at : (s : List ℕ) (h : Header) → Sound s h → (i : ℕ) → i < h.arcs → ArcGood h.places h.transitions (arc_at s (h.arcstart + 8 * i))
good_at s h sound i l = range_at h.places h.transitions s h.arcstart h.arcs i sound.arcs l

-- ---- numbers of 2 bytes

pub length-words : (s : List ℕ) (at n : ℕ) → length (words_from s at n) ≡ n
unfolding words_from
length-words s at zero = refl
length-words s at (suc n) = ap suc (length-words s (at + 2) n)

pub words_at : (s : List ℕ) (at n i : ℕ) → i < n → get_or (words_from s at n) i 0 ≡ le16 s (at + 2 * i)
unfolding words_from
words_at s at zero i h = absurd (omega arith)
words_at s at (suc n) zero h = ap (le16 s) (let e : at ≡ at + 2 * 0 = omega arith in e)
words_at s at (suc n) (suc i) h = words_at s (at + 2) n i (omega arith) ∙ ap (le16 s) (let e : at + 2 + 2 * i ≡ at + 2 * suc i = omega arith in e)

-- ---- numbers that rise, from a least one on

pub least_in : (l : List ℕ) (least : ℕ) → RisingFrom least l → (i : ℕ) → i < length l → least ≤ get_or l i 0
least_in [] least r i h = absurd (omega arith)
least_in (x ∷ l) least r zero h = r.0
least_in (x ∷ l) least r (suc i) h = omega (arith, r.0, least_in l (x + 1) r.1 i (omega arith))

pub rises : (l : List ℕ) (least : ℕ) → RisingFrom least l → (i j : ℕ) → i < j → j < length l → get_or l i 0 < get_or l j 0
rises [] least r i j d h = absurd (omega arith)
rises (x ∷ l) least r i zero d h = absurd (omega arith)
rises (x ∷ l) least r zero (suc j) d h = omega (arith, least_in l (x + 1) r.1 j (omega arith))
rises (x ∷ l) least r (suc i) (suc j) d h = rises l (x + 1) r.1 i j (omega arith) (omega arith)

pub rising_from : (l : List ℕ) (least : ℕ) → RisingFrom least l → Rising l
unfolding Rising
rising_from l least r i h = rises l least r i (suc i) (omega arith) h

pub from_rising : (l : List ℕ) (least : ℕ) → Rising l → (0 < length l → least ≤ get_or l 0 0) → RisingFrom least l
unfolding Rising
from_rising [] least r h = tt
from_rising (x ∷ l) least r h =
    (h (omega arith), from_rising l (x + 1) (λ i k. r (suc i) (omega arith)) (λ k. let y = r 0 (omega arith) in omega arith))
