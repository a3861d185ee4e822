-- The output list, by the way out that its writer took.
use Prim.Native.Nat.{ℕ, ◌<◌, ◌≤◌}
use mathlib.Core.Bool.{Bool, true, false}
use mathlib.Core.List.{List, ◌++◌}
use mathlib.Core.Path.{◌≡◌, sym, ap, subst, subst⁻¹, ◌∙◌}
use native.Mathlib.Omega.{arith}
use borrow.Author.Tests.{ltb-false}
use lib.ListN.{length, take, drop, replicate, length-replicate}
use lib.Dec.{ltb}
use lib.Seq.{length-take-le, get_or-take}
use Rattle.net.specs.Slice.{Slice}
use Rattle.file_header.specs.declared.Header.{Header}
use Rattle.projection.specs.Choice.{chosen_by, Reached, Projects}
use Rattle.projection.proofs.Choices.{chosen-few}
use Rattle.replay.specs.declared.Outcome.{Outcome}
use Rattle.shadow.specs.Told.{fired_of, with_count, fired_projection, Fireable, Given, Casts}
use Rattle.shadow.specs.declared.Shadow.{Shadow}
use Rattle.std.proofs.Common.{Result, Ok, Err}
use Rattle.refusals.specs.declared.Refusal.{Refusal}
use Rattle.refusals.specs.declared.Refusal.TheVariants.{Buffer}

module _ (P out : List ℕ) (o : Outcome) where
  no_room : ltb (length out) (length P) ≡ true → Casts P out out o (Err Buffer)
  no_room b = record { answer = rw b; output = rw b }

  room : {out' : List ℕ} {n : ℕ} {r : Result Shadow Refusal} → ltb (length out) (length P) ≡ false → n ≡ length P → out' ≡ P ++ drop (length P) out → r ≡ Ok (with_count o n) → Casts P out out' o r
  room b e f g = record { answer = rw b (g ∙ ap (λ (k : ℕ). Ok (with_count o k)) e); output = rw b f }

-- what is fired ends at `end`
module _ {table list : List ℕ} {o : Outcome} (g : Fireable table list o) {end : ℕ} (e : end ≡ fired_of o (length list)) where
  pub part-long : end ≡ length (take end list)
  part-long = sym (length-take-le end list (omega (arith, e, g.part)))

  pub part-reached : Reached table (take end list)
  part-reached = subst⁻¹ (λ (n : ℕ). Reached table (take n list)) e g.reached

  pub few_chosen : length (chosen_by table (take end list)) ≤ 65535
  few_chosen = omega (arith, chosen-few table (take end list), part-reached.short)

  pub cast_none : {out : List ℕ} {b : Bool} → b ≡ ltb (length out) (length (chosen_by table (take end list))) → b ≡ true
      → Casts (chosen_by table (take (fired_of o (length list)) list)) out out o (Err Buffer)
  cast_none {out} f t = subst (λ (n : ℕ). Casts (chosen_by table (take n list)) out out o (Err Buffer)) e (no_room _ out o (sym f ∙ t))

  pub space_enough : (out : List ℕ) {b : Bool} → b ≡ ltb (length out) (length (chosen_by table (take end list))) → b ≡ false → length (chosen_by table (take end list)) ≤ length out
  space_enough out f t = ltb-false (length out) (length (chosen_by table (take end list))) (sym f ∙ t)

  pub cast_all : {out out' : List ℕ} {b : Bool} {n : ℕ} {r : Result Shadow Refusal} → b ≡ ltb (length out) (length (chosen_by table (take end list))) → b ≡ false
      → n ≡ length (chosen_by table (take end list)) → out' ≡ chosen_by table (take end list) ++ drop (length (chosen_by table (take end list))) out → r ≡ Ok (with_count o n)
      → Casts (chosen_by table (take (fired_of o (length list)) list)) out out' o r
  cast_all {out} {out'} {b} {n} {r} f t c d h = subst (λ (x : ℕ). Casts (chosen_by table (take x list)) out out' o r) e (room (chosen_by table (take end list)) out o (sym f ∙ t) c d h)

-- a table that began as n zeros has n numbers
pub numbered : (n : ℕ) {S : Slice} {table : List ℕ} → Projects S (length (replicate {A = ℕ} n 0)) table → Projects S n table
numbered n {S} {table} = subst (λ (k : ℕ). Projects S k table) (length-replicate n 0)

-- by a slice's table
module _ {slice list : List ℕ} {s : Header} {o : Outcome} {long : ℕ} (g : Given slice s list o long) where
  pub fireable : {S : Slice} {table : List ℕ} → Projects S long table → Fireable table list o
  fireable t = record {
    part = g.part;
    reached = record {
      short = omega (arith, length-take-le (fired_of o (length list)) list g.part, g.short);
      known = λ i l.
          let inside : i < fired_of o (length list) = omega (arith, l, length-take-le (fired_of o (length list)) list g.part) in
          omega (arith, get_or-take (fired_of o (length list)) list i 0 inside, g.known i inside, t.length);
    };
  }

  pub cast_by_lem : {S : Slice} {table out out' : List ℕ} {r : Result Shadow Refusal} → Projects S long table → Casts (chosen_by table (take (fired_of o (length list)) list)) out out' o r
      → Casts (fired_projection S o list) out out' o r
  cast_by_lem {S} {table} {out} {out'} {r} t = subst (λ (P : List ℕ). Casts P out out' o r) (t.list (take (fired_of o (length list)) list) (fireable t).reached)
