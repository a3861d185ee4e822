-- A transfer, and the replay from what it left.
use Prim.Native.Nat.{ℕ, zero, suc, ◌≤◌, ◌<◌}
use mathlib.Core.Bool.{false}
use mathlib.Core.List.{List, [], ◌∷◌, ◌++◌}
use mathlib.Core.Path.{◌≡◌, refl, sym, ap, subst, subst⁻¹, ◌∙◌}
use mathlib.Core.Logic.{◌↔◌}
use native.Mathlib.Omega.{arith}
use lib.ListN.{length, take, drop, length-append, length-drop}
use lib.Dec.{ltb, leb}
use Rattle.net.specs.Numbers.{any}
use Rattle.net.specs.Net.{Net, Answer, fired, short, full, after, replay, tokens}
use Rattle.net.specs.Guarantee.{PlanFires}
use Rattle.net.proofs.Markings.{length-tokens}
use Rattle.file_words.specs.Word.{byte_at, Bytes}
use Rattle.file_words.proofs.Laws.{or_else_0}
use Rattle.file_header.specs.declared.Due.TheVariants as due
use Rattle.file.specs.Layout.{net_of}
use Rattle.file.specs.Refusal.{file_refusal}
use Rattle.promise.specs.Firing.{ReplayAnswer, replay_or, list_refusal, replay_refusal, replay_answer, replay_marking}
use Rattle.promise.specs.Promise.{Replays}
use Rattle.promise.specs.Together.{standing}
use Rattle.promise.specs.Starts.{net_at, started, start_refusal, from_refusal, replay_from_answer, replay_from_marking, OtherMarking}
use Rattle.promise.specs.Transfer.{carried_to, transfer_answer, transfer_marking, total, Carried}
use Rattle.promise.proofs.Ranges.{refuse-le, or_else_le, file_le}
use Rattle.promise.proofs.Replays.{differ}
use Rattle.promise.proofs.Starts.{other_marking, replays_from}
use Rattle.clients_starts.specs.Continued.{Continues}
use Rattle.clients_starts.proofs.Reading.{plan_either}

take_all : (l : List ℕ) (n : ℕ) → length l ≡ n → take n l ≡ l
take_all [] zero e = refl
take_all [] (suc n) e = refl
take_all (x ∷ l) zero e = absurd (omega (arith, e))
take_all (x ∷ l) (suc n) e = ap (λ (r : List ℕ). x ∷ r) (take_all l n (omega (arith, e)))

-- the refusal of a replay, and its number
number_is : (n : ℕ) (a : Answer) → (replay_or n a).refusal ≡ n
number_is zero fired = refl
number_is zero (short i p n) = refl
number_is zero (full i p n) = refl
number_is (suc k) a = refl

goes_on_lem : (n : ℕ) (a : Answer) → (replay_or n a).refused ≡ false → n ≡ 0
goes_on_lem zero a z = refl
goes_on_lem (suc k) a z = differ (sym z)

list_le : (T : ℕ) (list : List ℕ) → list_refusal T list ≤ 16
unfolding list_refusal
list_le T list = refuse-le (ltb 65535 (length list)) 11 _ 16 (omega arith) (refuse-le (any (λ t. leb T t) list) 12 0 16 (omega arith) (omega arith))

refusal_le : (file list : List ℕ) (room : ℕ) → (replay_answer file list room).refusal ≤ 16
unfolding replay_answer
refusal_le file list room = omega (arith, number_is (replay_refusal file list room) (replay (net_of file) list).answer, least)
  where
    least : replay_refusal file list room ≤ 16
    least = unfold replay_refusal in or_else_le (file_refusal due.Either file) _ 16 (file_le due.Either file)
        (or_else_le (list_refusal (net_of file).transitions list) _ 16 (list_le (net_of file).transitions list) (refuse-le (ltb room (net_of file).places) 13 0 16 (omega arith) (omega arith)))

-- a start that the transfer made
module _ (new running table start list marking : List ℕ) (b : Bytes new) (r : file_refusal due.Plan new ≡ 0) (long : length start ≡ (net_of new).places) (c : Carried new running table start) where
  whole : take (net_of new).places start ≡ start
  whole = take_all start (net_of new).places long

  passes : from_refusal due.Either new start ≡ 0
  unfolding from_refusal
  passes = rw (plan_either new r) (ap (start_refusal (net_of new)) (sym whole) ∙ c.ready)

  o : OtherMarking new start
  o = other_marking due.Either new start b passes

  answer-is : replay_from_answer new start list (length marking) ≡ replay_answer (started new start) list (length marking)
  unfolding replay_from_answer
  answer-is = rw passes

  marking_is : replay_from_marking new start list marking ≡ replay_marking (started new start) list marking
  unfolding replay_from_marking
  marking_is = rw passes

  small : (replay_from_answer new start list (length marking)).refusal ≤ 16
  small = let e = ap (λ (a : ReplayAnswer). a.refusal) answer-is in omega (arith, e, refusal_le (started new start) list (length marking))

  module _ (z : (replay_from_answer new start list (length marking)).refused ≡ false) where
    replayed : Replays (started new start) list (length marking)
    replayed = (replays_from new start list (length marking) z).1

    fires_there : ((replay_from_answer new start list (length marking)).stuck ≡ false) ↔ PlanFires (net_at new start) list
    fires_there =
        subst (λ (N : Net). ((replay_from_answer new start list (length marking)).stuck ≡ false) ↔ PlanFires N list) o.net
        (subst⁻¹ (λ (a : ReplayAnswer). (a.stuck ≡ false) ↔ PlanFires (net_of (started new start)) list) answer-is replayed.fires)

    not-refused : replay_refusal (started new start) list (length marking) ≡ 0
    unfolding replay_answer
    not-refused = goes_on_lem _ (replay (net_of (started new start)) list).answer (sym (ap (λ (a : ReplayAnswer). a.refused) answer-is) ∙ z)

    -- by the net of the file that has the start
    ends_started : (replay_from_answer new start list (length marking)).stuck ≡ false
        → replay_marking (started new start) list marking ≡ tokens (net_of (started new start)) (after (net_of (started new start)) (net_of (started new start)).marking list) ++ drop (net_of (started new start)).places marking
    unfolding replay_marking
    ends_started s =
        let N = net_of (started new start) in
        let f = replayed.fires.0 (sym (ap (λ (a : ReplayAnswer). a.stuck) answer-is) ∙ s) in
        let m = replayed.ends f in
        rw (not-refused, m) (ap (λ (k : ℕ). tokens N (after N N.marking list) ++ drop k marking) (length-tokens N (after N N.marking list)))

    ends_there : (replay_from_answer new start list (length marking)).stuck ≡ false
        → replay_from_marking new start list marking ≡ tokens (net_of new) (after (net_at new start) (standing start) list) ++ drop (net_of new).places marking
    unfolding tokens
    ends_there s = marking_is ∙ ends_started s ∙ ap (λ (N : Net). tokens N (after N N.marking list) ++ drop N.places marking) o.net

  continued : Continues new running table start list marking (replay_from_marking new start list marking) (replay_from_answer new start list (length marking))
  continued = record {
    all = ap total (sym whole) ∙ c.total;
    sums = c.sums;
    not_22 = λ z. omega (arith, z, small);
    not_24 = λ z. omega (arith, z, small);
    fires = fires_there;
    ends = ends_there;
  }

module _ (old new running table entry : List ℕ) (e : transfer_answer old new running table (length entry) ≡ 0) (long : length entry ≡ (net_of new).places) where
  new_read : file_refusal due.Plan new ≡ 0
  unfolding transfer_answer
  new_read = (or_else_0 (file_refusal due.Plan new) _ (or_else_0 (file_refusal due.Plan old) _ e).1).0

  as_long : length (transfer_marking old new running table entry) ≡ (net_of new).places
  unfolding transfer_marking
  as_long =
      let t = tokens (net_of new) (λ q. carried_to q table running) in
      rw e (omega (arith, length-append t (drop (length t) entry), length-drop (length t) entry, length-tokens (net_of new) (λ q. carried_to q table running), long))

  -- at the calls
  pub continues : (list marking : List ℕ) {start exit : List ℕ} {a : ReplayAnswer} → ((i : ℕ) → byte_at new i < 256) → start ≡ transfer_marking old new running table entry → Carried new running table start
      → a ≡ replay_from_answer new start list (length marking) → exit ≡ replay_from_marking new start list marking → Continues new running table start list marking exit a
  unfolding Bytes
  continues list marking {start} {exit} b s c ea em =
      subst⁻¹ (λ (x : ReplayAnswer). Continues new running table start list marking exit x) ea
      (subst⁻¹ (λ (x : List ℕ). Continues new running table start list marking x (replay_from_answer new start list (length marking))) em
      (continued new running table start list marking b new_read (ap (λ (l : List ℕ). length l) s ∙ as_long) c))
