-- What `together` answers, as a computation over bytes, and what the answer means (document 02, A6).
use Rattle.std.specs.Prelude.{ℕ, zero, suc, ◌<◌, Bool, true, false, not, List, ◌≡◌, ◌↔◌, length, take, get_or, eqb, ltb, leb}
use Rattle.net.specs.Net.{Marking, tokens}
use Rattle.net.specs.Together.{Takings, times, unlimited, together, remainder, NoInputs, Largest, Unlimited}
use Rattle.file.specs.Layout.{net_of}
use Rattle.file_words.specs.Refusal.{refuse, or_else}
use Rattle.file.specs.Refusal.{file_refusal}
use Rattle.file_header.specs.declared.Due.TheVariants as due
use Rattle.promise.specs.Calls.{written}

-- the marking that stands in a list
abbrev pub standing : List ℕ → Marking
standing m = λ p. get_or m p 0

-- the plan, then 12 for an unknown transition; "15: the marking does not have P entries; after the transition number, before the buffer"; 13 where that is shorter than P entries
unfoldable pub together_refusal : List ℕ → ℕ → ℕ → ℕ → ℕ
together_refusal plan t entries room =
    or_else (file_refusal due.Plan plan)
    (refuse (leb (net_of plan).transitions t) 12 (refuse (not (eqb entries (net_of plan).places)) 15 (refuse (ltb room (net_of plan).places) 13 0)))

-- whether the call is refused, and the refusal's number; whether the answer is 'unlimited', else "the largest k"
pub record TogetherAnswer : Type 0 where
  pub refused : Bool
  pub refusal : ℕ
  pub unlimited : Bool
  pub times : ℕ

-- the takings in numbers
abbrev pub together_told : Takings → TogetherAnswer
together_told (times k) = record { refused = false; refusal = 0; unlimited = false; times = k }
together_told unlimited = record { refused = false; refusal = 0; unlimited = true; times = 0 }

-- a refusal in numbers, or the takings
abbrev pub together_or : ℕ → Takings → TogetherAnswer
together_or zero a = together_told a
together_or (suc n) a = record { refused = true; refusal = suc n; unlimited = false; times = 0 }

-- how often the inputs of transition t of the plan can be taken together from the marking, with `room` entries lent for what is left
unfoldable pub together_answer : List ℕ → ℕ → List ℕ → ℕ → TogetherAnswer
together_answer plan t marking room = together_or (together_refusal plan t (length marking) room) (together (net_of plan) t (standing marking))

-- "the exact remainder .. for each place in a lent list of P entries"; later entries keep their values
unfoldable pub together_rest : List ℕ → ℕ → List ℕ → List ℕ → List ℕ
together_rest plan t marking rest =
    let N = net_of plan in
    written (together_refusal plan t (length marking) (length rest)) (tokens N (remainder N t (standing marking) (together N t (standing marking)))) rest

-- what people conclude from the answer `a` and the lent list afterwards, `exit`
pub record TakesLargest (plan : List ℕ) (t : ℕ) (marking : List ℕ) (a : TogetherAnswer) (exit : List ℕ) : Type 0 where
  -- "the largest k with k × in(p,t) at most M(p) for every place, and the exact remainder"
  pub largest : a.refused ≡ false → a.unlimited ≡ false → Largest (net_of plan) t (standing marking) a.times (standing exit)
  -- "A transition with no inputs answers 'unlimited'", and no other does
  pub unlimited : a.refused ≡ false → (a.unlimited ≡ true) ↔ NoInputs (net_of plan) t
  -- "and the remainders equal the marking"
  pub unchanged : a.refused ≡ false → a.unlimited ≡ true → Unlimited (net_of plan) t (standing marking) (standing exit) × (take (length marking) exit ≡ marking)

-- no other answer can be given: two that are not refusals agree, and leave the same
pub record SameTakings (plan : List ℕ) (a b : TogetherAnswer) (exit exit' : List ℕ) : Type 0 where
  pub same_unlimited : a.unlimited ≡ b.unlimited
  pub same_times : a.unlimited ≡ false → a.times ≡ b.times
  pub same_rest : (p : ℕ) → p < (net_of plan).places → standing exit p ≡ standing exit' p
