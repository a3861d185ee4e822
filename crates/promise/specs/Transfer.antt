-- Change of plan with buses on the road (document 02, A12): the running marking is carried to the places of a new plan.
use Rattle.std.specs.Prelude.{ℕ, ◌+◌, ◌<◌, Bool, false, not, ◌&&◌, ◌||◌, List, [], ◌∷◌, ◌≡◌, length, take, get_or, eqb, ltb, leb}
use Rattle.net.specs.Numbers.{any}
use Rattle.net.specs.Net.{Net, counted, tokens}
use Rattle.file_words.specs.Refusal.{refuse, or_else}
use Rattle.file.specs.Layout.{net_of}
use Rattle.file.specs.Refusal.{file_refusal}
use Rattle.file_header.specs.declared.Due.TheVariants as due
use Rattle.promise.specs.Calls.{written}
use Rattle.promise.specs.Starts.{overfull, start_refusal, from_refusal}

-- "Each new place gets the sum of what maps to it": to place q, by "a table giving for each old place its new place"
unfoldable pub carried_to : ℕ → List ℕ → List ℕ → ℕ
carried_to q [] running = 0
carried_to q (x ∷ table) [] = 0
carried_to q (x ∷ table) (n ∷ running) = counted (eqb x q) n + carried_to q table running

-- "an entry neither below the new P nor 65,535"
abbrev pub names_no_place : ℕ → ℕ → Bool
names_no_place P x = leb P x && not (eqb x 65535)

-- "22: a length wrong, or" such an entry; table and running marking have "the old P entries"
unfoldable pub table_wrong : ℕ → ℕ → List ℕ → List ℕ → Bool
table_wrong old new running table = not (eqb (length running) old) || (not (eqb (length table) old) || any (names_no_place new) table)

-- "a marked place with no target"
unfoldable pub strands : List ℕ → List ℕ → Bool
strands [] running = false
strands (x ∷ table) [] = false
strands (x ∷ table) (n ∷ running) = eqb x 65535 && ltb 0 n || strands table running

-- 22; 23 "a marked place with no target"; "24: a sum above 4,294,967,295 or the new cap"; 13 where the lent list of `room` entries is shorter than the new P
unfoldable pub carry_refusal : ℕ → Net → List ℕ → List ℕ → ℕ → ℕ
carry_refusal old N running table room =
    refuse (table_wrong old N.places running table) 22
    (refuse (strands table running) 23 (refuse (overfull N (λ q. carried_to q table running)) 24 (refuse (ltb room N.places) 13 0)))

-- "In this order, after the old and then the new file, before the buffer": the call's answer
unfoldable pub transfer_answer : List ℕ → List ℕ → List ℕ → List ℕ → ℕ → ℕ
transfer_answer old new running table room =
    or_else (file_refusal due.Plan old) (or_else (file_refusal due.Plan new) (carry_refusal (net_of old).places (net_of new) running table room))

-- the lent list afterwards
unfoldable pub transfer_marking : List ℕ → List ℕ → List ℕ → List ℕ → List ℕ → List ℕ
transfer_marking old new running table marking =
    written (transfer_answer old new running table (length marking)) (tokens (net_of new) (λ q. carried_to q table running)) marking

-- all tokens of a marking
unfoldable pub total : List ℕ → ℕ
total [] = 0
total (n ∷ rest) = n + total rest

-- what a transfer that is not refused leaves in the lent list, `exit`
pub record Carried (new running table exit : List ℕ) : Type 0 where
  pub sums : (q : ℕ) → q < (net_of new).places → get_or exit q 0 ≡ carried_to q table running
  -- "the total is unchanged"
  pub total : total (take (net_of new).places exit) ≡ total running
  -- the calls that start there refuse it by neither 22 nor 24
  pub ready : start_refusal (net_of new) (take (net_of new).places exit) ≡ 0

-- what people conclude: no other marking is carried, and the calls from a start take it
pub record CarriedOn (new exit exit' : List ℕ) : Type 0 where
  pub same : (q : ℕ) → q < (net_of new).places → get_or exit q 0 ≡ get_or exit' q 0
  pub totals : total (take (net_of new).places exit) ≡ total (take (net_of new).places exit')
  pub begins : from_refusal due.Plan new (take (net_of new).places exit) ≡ 0
