-- The fields of the number that the 8 bytes of an arc are.
use Rattle.std.proofs.Common.{◌≡◌, ℕ, zero, suc, ◌+◌, ◌*◌, ◌/◌, ◌%◌, ◌<◌, Bool, not, ◌||◌, eqb, ltb, leb, List, ap, arith, lt-ltb, ne_eqb}
use Rattle.net.specs.declared.Arc.{Arc}
use Rattle.file_words.specs.Word.{byte_at, le16, le32, le64}
use Rattle.file_arcs.specs.Facts.{ArcWord, arc_unfit}
use Rattle.file_arcs.specs.Refusal.{arc_wrong}

module _ (w a b d p q : ℕ) (e : w ≡ a + 65536 * b + 16777216 * d + 4294967296 * p + 281474976710656 * q) (ha : a < 65536) (hb : b < 256) (hd : d < 256) (hp : p < 65536) (hq : q < 65536) where
  pub field_transition : w % 65536 ≡ a
  field_transition = omega arith

  pub field_direction : w / 65536 % 256 ≡ b
  field_direction = omega arith

  pub field_middle : w / 65536 % 65536 ≡ b + 256 * d
  field_middle = omega arith

  pub field_place : w / 4294967296 % 65536 ≡ p
  field_place = omega arith

  pub field_weight : w / 281474976710656 ≡ q
  field_weight = omega arith

-- two numbers of 4 bytes in a row are an arc, where each byte is below 256
pub arc-word : (s : List ℕ) (at w : ℕ) → ((i : ℕ) → byte_at s i < 256) → w ≡ le64 s at → ArcWord s at w
unfolding le32 le16
arc-word s at w low e =
    let f : byte_at s (at + 2 + 1) ≡ byte_at s (at + 3) = ap (byte_at s) (omega arith) in
    let g : byte_at s (at + 4 + 2) ≡ byte_at s (at + 6) = ap (byte_at s) (omega arith) in
    let h : byte_at s (at + 4 + 2 + 1) ≡ byte_at s (at + 6 + 1) = ap (byte_at s) (omega arith) in
    let a = le16 s at in
    let b = byte_at s (at + 2) in
    let d = byte_at s (at + 3) in
    let p = le16 s (at + 4) in
    let q = le16 s (at + 6) in
    let sum : w ≡ a + 65536 * b + 16777216 * d + 4294967296 * p + 281474976710656 * q = omega (arith, e, f, g, h) in
    let ha : a < 65536 = omega (arith, low at, low (at + 1)) in
    let hp : p < 65536 = omega (arith, low (at + 4), low (at + 4 + 1)) in
    let hq : q < 65536 = omega (arith, low (at + 6), low (at + 6 + 1)) in
    record {
      sum = e;
      arc = λ i. record {
        transition = field_transition w a b d p q sum ha (low (at + 2)) (low (at + 3)) hp hq i;
        direction = field_direction w a b d p q sum ha (low (at + 2)) (low (at + 3)) hp hq i;
        place = field_place w a b d p q sum ha (low (at + 2)) (low (at + 3)) hp hq i;
        weight = field_weight w a b d p q sum ha (low (at + 2)) (low (at + 3)) hp hq i;
      };
      middle = field_middle w a b d p q sum ha (low (at + 2)) (low (at + 3)) hp hq;
    }

-- a direction above 1 or a zero byte that is not 0: the two as one number are above 1
pub middle_wrong : (b d : ℕ) → ltb 1 (b + 256 * d) ≡ (not (eqb d 0) || ltb 1 b)
middle_wrong b zero = ap (λ (x : ℕ). ltb 1 x) (let e : b + 256 * 0 ≡ b = omega arith in e)
middle_wrong b (suc d) = rw (lt-ltb 1 (b + 256 * suc d) (omega arith), ne_eqb (suc d) 0 (λ e. omega (arith, e)))

pub unfit-wrong : (P T : ℕ) (a : Arc) (spare : ℕ) → arc_unfit P T a (a.direction + 256 * spare) ≡ arc_wrong P T a spare
unfit-wrong P T a spare = ap (λ (x : Bool). x || leb P a.place || leb T a.transition || eqb a.weight 0) (middle_wrong a.direction spare)
