-- Each refusal has a number of its own, above 0.
use Rattle.std.proofs.Common.{◌≡◌, ℕ, suc, refl, sym, ap, ◌∙◌, arith, Result, Ok, Err, [], ◌∷◌, get_or}
use Rattle.std.specs.Prelude.{IsErrAnd}
use Rattle.std.proofs.lemmas.Result.{err_from_is_err_and}
use Rattle.refusals.specs.Numbers.{number, told}
use Rattle.refusals.specs.declared.Refusal.{Refusal}
use Rattle.refusals.specs.declared.Refusal.TheVariants.{Length, Letters, Kind, Counts, Body, Arc, Order, Origins, Criterion, Place, List, Transition, Buffer, Stuck, Marking, Cap, Capped, Profile, Id, Number, Upper, Entries, Stranded, Tokens, Weight}

pub number_above : (e : Refusal) → (k : ℕ) × (number e ≡ suc k)
number_above Length = (0, refl)
number_above Letters = (1, refl)
number_above Kind = (2, refl)
number_above Counts = (3, refl)
number_above Body = (4, refl)
number_above Arc = (5, refl)
number_above Order = (6, refl)
number_above Origins = (7, refl)
number_above Criterion = (8, refl)
number_above Place = (9, refl)
number_above List = (10, refl)
number_above Transition = (11, refl)
number_above Buffer = (12, refl)
number_above Stuck = (13, refl)
number_above Marking = (14, refl)
number_above Cap = (15, refl)
number_above Capped = (16, refl)
number_above Profile = (17, refl)
number_above Id = (18, refl)
number_above Number = (19, refl)
number_above Upper = (20, refl)
number_above Entries = (21, refl)
number_above Stranded = (22, refl)
number_above Tokens = (23, refl)
number_above Weight = (24, refl)

pub number_some : (e : Refusal) → number e ≡ 0 → ⊥
number_some e z = omega (arith, z, (number_above e).1)

-- the refusal of a number
refusal_of : ℕ → Refusal
refusal_of n = get_or (Length ∷ Length ∷ Letters ∷ Kind ∷ Counts ∷ Body ∷ Arc ∷ Order ∷ Origins ∷ Criterion ∷ Place ∷ List ∷ Transition ∷ Buffer ∷ Stuck ∷ Marking ∷ Cap ∷ Capped ∷ Profile ∷ Id ∷ Number ∷ Upper ∷ Entries ∷ Stranded ∷ Tokens ∷ Weight ∷ []) n Length

of_number : (e : Refusal) → refusal_of (number e) ≡ e
unfolding refusal_of
of_number Length = refl
of_number Letters = refl
of_number Kind = refl
of_number Counts = refl
of_number Body = refl
of_number Arc = refl
of_number Order = refl
of_number Origins = refl
of_number Criterion = refl
of_number Place = refl
of_number List = refl
of_number Transition = refl
of_number Buffer = refl
of_number Stuck = refl
of_number Marking = refl
of_number Cap = refl
of_number Capped = refl
of_number Profile = refl
of_number Id = refl
of_number Number = refl
of_number Upper = refl
of_number Entries = refl
of_number Stranded = refl
of_number Tokens = refl
of_number Weight = refl

pub number_apart : (a b : Refusal) → number a ≡ number b → a ≡ b
number_apart a b e = sym (of_number a) ∙ ap refusal_of e ∙ of_number b

pub told_apart : {A : Type 0} (a b : Result A Refusal) → told a ≡ told b → a ≡ b
told_apart (Ok a) (Ok b) e = ap Ok (let q : a ≡ b = cc in q)
told_apart (Ok a) (Err f) e = let z : ◌≡◌ {A = ℕ} 0 1 = cc in absurd (omega (arith, z))
told_apart (Err d) (Ok b) e = let z : ◌≡◌ {A = ℕ} 0 1 = cc in absurd (omega (arith, z))
told_apart (Err d) (Err f) e = ap Err (number_apart d f (let q : number d ≡ number f = cc in q))

-- what the exit of a `?` answers is the refusal that it met
pub passed_on : {A : Type 0} (r : Result A Refusal) {e : Refusal} → IsErrAnd r (λ d. d ≡ e) → r ≡ Err e
passed_on r h = let p = err_from_is_err_and r h in p.1 ∙ ap Err p.2
