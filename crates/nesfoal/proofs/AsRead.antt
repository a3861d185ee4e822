-- The promises of the static cuts, of the normal form, of the run cut and of a range, as a C program reads the answer.
use Prim.Native.Nat.{ℕ, zero, suc, ◌≤◌}
use mathlib.Core.Path.{◌≡◌, refl, sym, ap, subst, subst⁻¹, ◌∙◌}
use mathlib.Core.Bool.{not, ◌||◌}
use mathlib.Core.List.{List}
use native.Mathlib.Omega.{arith}
use lib.ListN.{length}
use borrow.Author.Tests.{ne_eqb}
use Rattle.net.specs.Net.{counted, Net}
use Rattle.net.specs.Cut.{safety, branching}
use Rattle.net.specs.Slice.{Slice}
use Rattle.net.specs.Range.{Extent, every, partly, never, extent}
use Rattle.file.specs.Layout.{net_of}
use Rattle.promise.specs.Calls.{CutAnswer, cut_answer, cut_of, write_refusal, safety_file, safety_answer, branching_file, branching_answer}
use Rattle.promise.specs.Starts.{started, from_refusal, cut_unless, safety_from_answer, branching_from_answer}
use Rattle.promise.specs.Exactness.{WritesExact}
use Rattle.file_header.specs.declared.Due.TheVariants as due
use Rattle.promise.specs.Promise.{WritesSmallest}
use Rattle.promise.specs.Pnml.{pnml_file, pnml_write_refusal, pnml_answer, WritesNamed}
use Rattle.promise.specs.Normal.{normal_file, normal_write_refusal, FileAnswer, file_answer, normal_answer, WritesNormal}
use Rattle.promise.specs.RunCut.{RunAnswer, RunsBack}
use Rattle.promise.specs.Together.{standing}
use Rattle.promise.specs.Range.{range_refusal, range_or, range_answer, range_need, TellsRange}
use Rattle.promise.proofs.Range.{tells_range}
use Rattle.promise.proofs.Ranges.{range_le}
use Rattle.nesfoal.specs.Cuts.{cut_read}
use Rattle.nesfoal.specs.Files.{file_read}
use Rattle.nesfoal.specs.Recorded.{run_read}
use Rattle.nesfoal.specs.Ranges.{range_code, range_read}

-- what is read is the answer
as_read : (n len : ℕ) (S : Slice) → let a = cut_answer n len S in cut_read a.refusal a.length a.places a.transitions ≡ a
as_read zero len S = refl
as_read (suc n) len S = refl

safety-as_read : (plan Q : List ℕ) (room : ℕ) → let a = safety_answer plan Q room in cut_read a.refusal a.length a.places a.transitions ≡ a
unfolding safety_answer
safety-as_read plan Q room = as_read (write_refusal plan Q room (safety_file plan Q)) (length (safety_file plan Q)) (cut_of safety plan Q)

-- and so it has the promise
pub safety-for_c : (accepts : List ℕ → Type 0) (plan Q : List ℕ) (room : ℕ) {exit : List ℕ} {a : CutAnswer} {r n p t : ℕ} → a ≡ safety_answer plan Q room → WritesSmallest accepts a exit
    → r ≡ (safety_answer plan Q room).refusal → n ≡ (safety_answer plan Q room).length → p ≡ (safety_answer plan Q room).places → t ≡ (safety_answer plan Q room).transitions
    → WritesSmallest accepts (cut_read r n p t) exit
safety-for_c accepts plan Q room {exit} e w er en ep et =
    let same = (λ i. cut_read (er i) (en i) (ep i) (et i)) ∙ safety-as_read plan Q room ∙ sym e in
    subst⁻¹ (λ (x : CutAnswer). WritesSmallest accepts x exit) same w

-- the same of the normal form
file_as_read : (n len : ℕ) → let a = file_answer n len in file_read a.refusal a.length ≡ a
file_as_read zero len = refl
file_as_read (suc n) len = refl

pub normal_for_c : (plan : List ℕ) (room : ℕ) {exit : List ℕ} {a : FileAnswer} {r n : ℕ} → a ≡ normal_answer plan room → WritesNormal plan a exit
    → r ≡ (normal_answer plan room).refusal → n ≡ (normal_answer plan room).length → WritesNormal plan (file_read r n) exit
unfolding normal_answer
normal_for_c plan room {exit} e w er en =
    let same = (λ i. file_read (er i) (en i)) ∙ file_as_read (normal_write_refusal plan room) (length (normal_file plan)) ∙ sym e in
    subst⁻¹ (λ (x : FileAnswer). WritesNormal plan x exit) same w

pub named-for_c : (s : List ℕ) (room : ℕ) {exit : List ℕ} {a : FileAnswer} {r n : ℕ} → a ≡ pnml_answer s room → WritesNamed s a exit
    → r ≡ (pnml_answer s room).refusal → n ≡ (pnml_answer s room).length → WritesNamed s (file_read r n) exit
unfolding pnml_answer
named-for_c s room {exit} e w er en =
    let same = (λ i. file_read (er i) (en i)) ∙ file_as_read (pnml_write_refusal s room) (length (pnml_file s)) ∙ sym e in
    subst⁻¹ (λ (x : FileAnswer). WritesNamed s x exit) same w

-- from a start: the refusal of plan or start, or the answer
unless_read : (n : ℕ) (a : CutAnswer) → cut_read a.refusal a.length a.places a.transitions ≡ a → let b = cut_unless n a in cut_read b.refusal b.length b.places b.transitions ≡ b
unless_read zero a e = e
unless_read (suc n) a e = refl

from_as_read : (plan start Q : List ℕ) (room : ℕ) → let a = safety_from_answer plan start Q room in cut_read a.refusal a.length a.places a.transitions ≡ a
unfolding safety_from_answer
from_as_read plan start Q room = unless_read (from_refusal due.Plan plan start) (safety_answer (started plan start) Q room) (safety-as_read (started plan start) Q room)

branching-as_read : (plan Q : List ℕ) (room : ℕ) → let a = branching_answer plan Q room in cut_read a.refusal a.length a.places a.transitions ≡ a
unfolding branching_answer
branching-as_read plan Q room = as_read (write_refusal plan Q room (branching_file plan Q)) (length (branching_file plan Q)) (cut_of branching plan Q)

branching-from_as_read : (plan start Q : List ℕ) (room : ℕ) → let a = branching_from_answer plan start Q room in cut_read a.refusal a.length a.places a.transitions ≡ a
unfolding branching_from_answer
branching-from_as_read plan start Q room = unless_read (from_refusal due.Plan plan start) (branching_answer (started plan start) Q room) (branching-as_read (started plan start) Q room)

pub safety-from_for_c : (accepts : List ℕ → Type 0) (plan start Q : List ℕ) (room : ℕ) {exit : List ℕ} {a : CutAnswer} {r n p t : ℕ} → a ≡ safety_from_answer plan start Q room → WritesSmallest accepts a exit
    → r ≡ (safety_from_answer plan start Q room).refusal → n ≡ (safety_from_answer plan start Q room).length → p ≡ (safety_from_answer plan start Q room).places → t ≡ (safety_from_answer plan start Q room).transitions
    → WritesSmallest accepts (cut_read r n p t) exit
safety-from_for_c accepts plan start Q room {exit} e w er en ep et =
    let same = (λ i. cut_read (er i) (en i) (ep i) (et i)) ∙ from_as_read plan start Q room ∙ sym e in
    subst⁻¹ (λ (x : CutAnswer). WritesSmallest accepts x exit) same w

pub branching-from_for_c : (accepts : List ℕ → Type 0) (N : Net) (plan start Q : List ℕ) (room : ℕ) {exit : List ℕ} {a : CutAnswer} {r n p t : ℕ} → a ≡ branching_from_answer plan start Q room → WritesExact accepts N a exit
    → r ≡ (branching_from_answer plan start Q room).refusal → n ≡ (branching_from_answer plan start Q room).length → p ≡ (branching_from_answer plan start Q room).places → t ≡ (branching_from_answer plan start Q room).transitions
    → WritesExact accepts N (cut_read r n p t) exit
branching-from_for_c accepts N plan start Q room {exit} e w er en ep et =
    let same = (λ i. cut_read (er i) (en i) (ep i) (et i)) ∙ branching-from_as_read plan start Q room ∙ sym e in
    subst⁻¹ (λ (x : CutAnswer). WritesExact accepts N x exit) same w

-- the run cut's promise speaks of the numbers alone
run-as_read : (plan Q list : List ℕ) (a : RunAnswer) (exit positions : List ℕ) → RunsBack plan Q list a exit positions
    → RunsBack plan Q list (run_read a.refusal a.length a.places a.transitions a.count a.index a.place a.amount) exit positions
run-as_read plan Q list a exit positions x = record { feeds = x.feeds; places = x.places; transitions = x.transitions; sticks = x.sticks }

pub run-for_c : (plan Q list : List ℕ) (a : RunAnswer) {exit positions : List ℕ} {b : RunAnswer} {r n p t c i q m : ℕ} → b ≡ a → RunsBack plan Q list b exit positions
    → r ≡ a.refusal → n ≡ a.length → p ≡ a.places → t ≡ a.transitions → c ≡ a.count → i ≡ a.index → q ≡ a.place → m ≡ a.amount
    → RunsBack plan Q list (run_read r n p t c i q m) exit positions
run-for_c plan Q list a {exit} {positions} e x er en ep et ec ei eq em =
    subst⁻¹ (λ (y : RunAnswer). RunsBack plan Q list y exit positions) (λ j. run_read (er j) (en j) (ep j) (et j) (ec j) (ei j) (eq j) (em j))
    (run-as_read plan Q list a exit positions (subst (λ (y : RunAnswer). RunsBack plan Q list y exit positions) e x))

-- no refusal of a range has the number of another answer
range_as_read : (n : ℕ) (x : Extent) → n ≤ 21 → range_read (range_code (range_or n x)) ≡ range_or n x
range_as_read zero every h = refl
range_as_read zero partly h = refl
range_as_read zero never h = refl
range_as_read (suc n) x h =
    let all = ne_eqb (suc n) 0 (λ e. omega (arith, e)) in
    let some = ne_eqb (suc n) 100 (λ e. omega (arith, h, e)) in
    let none = ne_eqb (suc n) 101 (λ e. omega (arith, h, e)) in
    λ i. record { refused = not (all i || some i || none i); refusal = counted (not (all i || some i || none i)) (suc n); every = all i; partly = some i; never = none i }

pub range_for_c : (plan list upper lent : List ℕ) {r : ℕ} {exit : List ℕ} → r ≡ range_code (range_answer plan list upper (length lent)) → exit ≡ range_need plan list upper lent
    → TellsRange plan list upper (range_read r) exit
unfolding range_answer
range_for_c plan list upper lent e f =
    let read = range_as_read (range_refusal plan list upper (length lent)) (extent (net_of plan) (standing upper) list) (range_le plan list upper (length lent)) in
    tells_range plan list upper lent (ap range_read e ∙ read) f
