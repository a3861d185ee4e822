-- The replay of no firing leaves the file's own marking, from which each call is the plain one.
use Prim.Native.Nat.{ℕ, zero, suc, ◌<◌}
use mathlib.Core.List.{List, [], ◌∷◌, ◌++◌}
use mathlib.Core.Path.{◌≡◌, refl, ap, ◌∙◌}
use native.Mathlib.Omega.{arith}
use lib.ListN.{length, drop, drop_of_length-le}
use borrow.Author.Tests.{le-ltb}
use Rattle.net.specs.Numbers.{any}
use Rattle.net.specs.Net.{replay_from, replay, tokens}
use Rattle.net.proofs.Markings.{length-tokens}
use Rattle.file_words.specs.Word.{byte_at, Bytes}
use Rattle.file_header.specs.declared.Due.TheVariants as due
use Rattle.file.specs.Layout.{net_of}
use Rattle.file.specs.Refusal.{file_refusal}
use Rattle.promise.specs.Calls.{CutAnswer, Checked, safety_answer, safety_buffer, branching_answer, branching_buffer, cut_refusal, write_refusal, check_refusal, checked}
use Rattle.promise.specs.Firing.{ReplayAnswer, list_refusal, replay_refusal, replay_answer, replay_marking}
use Rattle.promise.specs.Starts.{from_refusal, replay_from_answer, replay_from_marking, safety_from_answer, safety_from_buffer, branching_from_answer, branching_from_buffer, check_from_refusal, checked_from, own_start}
use Rattle.promise.proofs.Starts.{own_start_row}
use Rattle.clients_starts.proofs.Reading.{plan_either}

module _ (file own : List ℕ) (b : Bytes file) (long : length own ≡ (net_of file).places) where
  abbrev start : List ℕ
  start = replay_marking file [] own

  nothing-fired : file_refusal due.Either file ≡ 0 → start ≡ tokens (net_of file) (net_of file).marking ++ drop (length (tokens (net_of file) (net_of file).marking)) own
  unfolding replay_marking replay_refusal list_refusal any replay replay_from
  nothing-fired r = rw (r, le-ltb (length own) (net_of file).places (omega (arith, long)))

  is_own : file_refusal due.Either file ≡ 0 → start ≡ own_start file
  is_own r =
      let t = own_start file in
      let n = length-tokens (net_of file) (net_of file).marking in
      nothing-fired r ∙ ap (λ (x : List ℕ). t ++ x) (drop_of_length-le own {i = length t} (omega (arith, n, long))) ∙ none_added t
    where
      none_added : (l : List ℕ) → l ++ [] ≡ l
      none_added [] = refl
      none_added (x ∷ l) = ap (λ (r : List ℕ). x ∷ r) (none_added l)

  -- each call, by the refusal of the file
  replay-is : (list : List ℕ) (room n : ℕ) → file_refusal due.Either file ≡ n → replay_from_answer file start list room ≡ replay_answer file list room
  replay-is list room zero r = ap (λ (s : List ℕ). replay_from_answer file s list room) (is_own r) ∙ (own_start_row file b).replay list room
  replay-is list room (suc k) r = unfold replay_from_answer in unfold from_refusal in unfold replay_answer in unfold replay_refusal in rw r

  marking_is : (list marking : List ℕ) (n : ℕ) → file_refusal due.Either file ≡ n → replay_from_marking file start list marking ≡ replay_marking file list marking
  marking_is list marking zero r = ap (λ (s : List ℕ). replay_from_marking file s list marking) (is_own r) ∙ (own_start_row file b).marking list marking
  marking_is list marking (suc k) r = unfold replay_from_marking in unfold from_refusal in unfold replay_marking in unfold replay_refusal in rw r

  safety-is : (Q : List ℕ) (room n : ℕ) → file_refusal due.Plan file ≡ n → safety_from_answer file start Q room ≡ safety_answer file Q room
  safety-is Q room zero r = ap (λ (s : List ℕ). safety_from_answer file s Q room) (is_own (plan_either file r)) ∙ (own_start_row file b).safety Q room
  safety-is Q room (suc k) r = unfold safety_from_answer in unfold from_refusal in unfold safety_answer in unfold write_refusal in unfold cut_refusal in rw r

  safety-buffer_is : (Q buffer : List ℕ) (n : ℕ) → file_refusal due.Plan file ≡ n → safety_from_buffer file start Q buffer ≡ safety_buffer file Q buffer
  safety-buffer_is Q buffer zero r = ap (λ (s : List ℕ). safety_from_buffer file s Q buffer) (is_own (plan_either file r)) ∙ (own_start_row file b).safety_buffer_row Q buffer
  safety-buffer_is Q buffer (suc k) r = unfold safety_from_buffer in unfold from_refusal in unfold safety_buffer in unfold write_refusal in unfold cut_refusal in rw r

  branching-is : (Q : List ℕ) (room n : ℕ) → file_refusal due.Plan file ≡ n → branching_from_answer file start Q room ≡ branching_answer file Q room
  branching-is Q room zero r = ap (λ (s : List ℕ). branching_from_answer file s Q room) (is_own (plan_either file r)) ∙ (own_start_row file b).branching Q room
  branching-is Q room (suc k) r = unfold branching_from_answer in unfold from_refusal in unfold branching_answer in unfold write_refusal in unfold cut_refusal in rw r

  branching-buffer_is : (Q buffer : List ℕ) (n : ℕ) → file_refusal due.Plan file ≡ n → branching_from_buffer file start Q buffer ≡ branching_buffer file Q buffer
  branching-buffer_is Q buffer zero r = ap (λ (s : List ℕ). branching_from_buffer file s Q buffer) (is_own (plan_either file r)) ∙ (own_start_row file b).branching_buffer_row Q buffer
  branching-buffer_is Q buffer (suc k) r = unfold branching_from_buffer in unfold from_refusal in unfold branching_buffer in unfold write_refusal in unfold cut_refusal in rw r

  check_is : (slice Q : List ℕ) (n : ℕ) → file_refusal due.Plan file ≡ n → checked_from file slice start Q ≡ checked file slice Q
  check_is slice Q zero r = ap (λ (s : List ℕ). checked_from file slice s Q) (is_own (plan_either file r)) ∙ (own_start_row file b).check slice Q
  check_is slice Q (suc k) r = unfold checked_from in unfold check_from_refusal in unfold checked in unfold check_refusal in rw r

-- at the calls: m is what the replay of no firing left
module _ (file own : List ℕ) (bytes : (i : ℕ) → byte_at file i < 256) (long : length own ≡ (net_of file).places) {m : List ℕ} (e : m ≡ replay_marking file [] own) where
  b : Bytes file
  unfolding Bytes
  b = bytes

  pub own-replay : (list marking : List ℕ) {exit : List ℕ} {a : ReplayAnswer} → a ≡ replay_from_answer file m list (length marking) → exit ≡ replay_from_marking file m list marking
      → (a ≡ replay_answer file list (length marking)) × (exit ≡ replay_marking file list marking)
  own-replay list marking ea em = (
    ea ∙ ap (λ (s : List ℕ). replay_from_answer file s list (length marking)) e ∙ replay-is file own b long list (length marking) (file_refusal due.Either file) refl,
    em ∙ ap (λ (s : List ℕ). replay_from_marking file s list marking) e ∙ marking_is file own b long list marking (file_refusal due.Either file) refl,
  )

  pub own-safety : (Q buffer : List ℕ) {exit : List ℕ} {a : CutAnswer} → a ≡ safety_from_answer file m Q (length buffer) → exit ≡ safety_from_buffer file m Q buffer
      → (a ≡ safety_answer file Q (length buffer)) × (exit ≡ safety_buffer file Q buffer)
  own-safety Q buffer ea eb = (
    ea ∙ ap (λ (s : List ℕ). safety_from_answer file s Q (length buffer)) e ∙ safety-is file own b long Q (length buffer) (file_refusal due.Plan file) refl,
    eb ∙ ap (λ (s : List ℕ). safety_from_buffer file s Q buffer) e ∙ safety-buffer_is file own b long Q buffer (file_refusal due.Plan file) refl,
  )

  pub own-branching : (Q buffer : List ℕ) {exit : List ℕ} {a : CutAnswer} → a ≡ branching_from_answer file m Q (length buffer) → exit ≡ branching_from_buffer file m Q buffer
      → (a ≡ branching_answer file Q (length buffer)) × (exit ≡ branching_buffer file Q buffer)
  own-branching Q buffer ea eb = (
    ea ∙ ap (λ (s : List ℕ). branching_from_answer file s Q (length buffer)) e ∙ branching-is file own b long Q (length buffer) (file_refusal due.Plan file) refl,
    eb ∙ ap (λ (s : List ℕ). branching_from_buffer file s Q buffer) e ∙ branching-buffer_is file own b long Q buffer (file_refusal due.Plan file) refl,
  )

  pub own-check : (slice Q : List ℕ) {c : Checked} → c ≡ checked_from file slice m Q → c ≡ checked file slice Q
  own-check slice Q ec = ec ∙ ap (λ (s : List ℕ). checked_from file slice s Q) e ∙ check_is file own b long slice Q (file_refusal due.Plan file) refl
