-- The answer and the buffer of a cut from a lent marking, by the way out that the call took.
use Prim.Native.Nat.{ℕ, zero, suc, ◌<◌}
use mathlib.Core.Path.{◌≡◌, refl, sym, ap, ◌∙◌}
use mathlib.Core.Logic.{◌≢◌}
use mathlib.Core.List.{List}
use lib.ListN.{length}
use mathlib.Core.Bool.{true}
use Rattle.std.specs.Prelude.{Result, Err}
use Rattle.refusals.specs.Numbers.{number}
use Rattle.refusals.specs.declared.Refusal.{Refusal}
use Rattle.refusals.proofs.Numbers.{number_above, number_some}
use Rattle.file_words.specs.Word.{byte_at, Bytes}
use Rattle.file.specs.Layout.{net_from}
use Rattle.file.specs.Criterion.{criterion_refusal}
use Rattle.file.specs.Facts.{Opened}
use Rattle.file_header.specs.declared.Due.TheVariants as due
use Rattle.file_header.specs.declared.Header.{Header}
use Rattle.promise.specs.Calls.{CutAnswer, cut_refusal, safety_answer, safety_buffer, branching_answer, branching_buffer}
use Rattle.promise.specs.Exactness.{WritesExact}
use Rattle.promise.specs.Starts.{net_at, start_refusal, started_from, started, from_refusal, cut_unless, left_unless, safety_from_answer, safety_from_buffer, branching_from_answer, branching_from_buffer, AcceptsFrom}
use Rattle.promise.specs.Promise.{WritesSmallest}
use Rattle.promise.proofs.Starts.{writes_smallest_from, writes_exact_from}
use Rattle.inputs_starts.specs.Startable.{Startable}
use Rattle.inputs_starts.proofs.Calls.{by_start, same_file}
use Rattle.sets.specs.declared.KeptSets.{KeptSets}
use Rattle.cut.specs.Kept.{draws_all, growth_of, Kept}
use Rattle.cut.specs.declared.Kind.{Kind}
use Rattle.cut.specs.declared.Kind.TheVariants.{Safety, Branching}
use Rattle.slice.specs.Kept.{cut_numbers, kept_slice, Answers}
use Rattle.slice.specs.declared.Written.{Written}
use Rattle.call_cuts.specs.Kinds.{answer_by, buffer_by}
use Rattle.call_cuts.proofs.Cutting.{safety-refused, safety-untouched, safety-written, branching-refused, branching-untouched, branching-written}

-- a start that passes
pub ready : (plan : List ℕ) (h : Header) (start : List ℕ) → Opened due.Plan plan h → 0 ≡ start_refusal (net_from plan h) start → Startable due.Plan plan h start
ready plan h start o e = record { opened = o; passes = sym e }

-- either cut, by its kind
pub kind_refused : (k : Kind) (plan Q : List ℕ) (w : Refusal) → cut_refusal plan Q ≡ number w → (buffer : List ℕ)
    → (cut_numbers (Err w) ≡ answer_by k plan Q (length buffer)) × (buffer ≡ buffer_by k plan Q buffer)
kind_refused Safety plan Q w e buffer = (safety-refused plan Q w e (length buffer), safety-untouched plan Q w e buffer)
kind_refused Branching plan Q w e buffer = (branching-refused plan Q w e (length buffer), branching-untouched plan Q w e buffer)

module _ (plan Q : List ℕ) (h : Header) (o : Opened due.Plan plan h) (q : criterion_refusal h.places Q ≡ 0) (kept : KeptSets) where
  pub kind_written : (k : Kind) (entry exit : List ℕ) (r : Result Written Refusal) → Answers h.edition (kept_slice plan h kept) entry exit r → Kept (growth_of (draws_all k) (net_from plan h) Q) kept
      → (cut_numbers r ≡ answer_by k plan Q (length entry)) × (exit ≡ buffer_by k plan Q entry)
  kind_written Safety entry exit r = safety-written plan Q h o q kept entry exit r
  kind_written Branching entry exit r = branching-written plan Q h o q kept entry exit r

-- the same of a file by another name
pub kind_as : (k : Kind) {c c' : List ℕ} (Q entry : List ℕ) {exit : List ℕ} {a : CutAnswer} → c ≡ c'
    → (a ≡ answer_by k c Q (length entry)) × (exit ≡ buffer_by k c Q entry) → (a ≡ answer_by k c' Q (length entry)) × (exit ≡ buffer_by k c' Q entry)
kind_as k Q entry e (f, g) = (f ∙ ap (λ (x : List ℕ). answer_by k x Q (length entry)) e, g ∙ ap (λ (x : List ℕ). buffer_by k x Q entry) e)

-- from a start: refused by the plan or the start, or not
stops : (w : Refusal) (a : CutAnswer) → cut_numbers (Err w) ≡ cut_unless (number w) a
stops w a =
    let above = number_above w in
    (λ i. record { refused = true; refusal = above.1 i; length = 0; places = 0; transitions = 0 }) ∙ ap (λ (n : ℕ). cut_unless n a) (sym above.1)

stays : (n : ℕ) (exit m : List ℕ) → n ≢ 0 → m ≡ left_unless n exit m
stays zero exit m z = absurd (z refl)
stays (suc n) exit m z = refl

pub from_refused : (k : Kind) (plan start Q buffer : List ℕ) (w : Refusal) → from_refusal due.Plan plan start ≡ number w
    → (cut_numbers (Err w) ≡ cut_unless (from_refusal due.Plan plan start) (answer_by k (started plan start) Q (length buffer)))
    × (buffer ≡ left_unless (from_refusal due.Plan plan start) (buffer_by k (started plan start) Q buffer) buffer)
from_refused k plan start Q buffer w e = (rw e (stops w _), rw e (stays (number w) _ buffer (number_some w)))

pub from_on : (k : Kind) (plan : List ℕ) (h : Header) (start Q entry : List ℕ) {exit : List ℕ} {a : CutAnswer} → Startable due.Plan plan h start
    → (a ≡ answer_by k (started_from plan h start) Q (length entry)) × (exit ≡ buffer_by k (started_from plan h start) Q entry)
    → (a ≡ cut_unless (from_refusal due.Plan plan start) (answer_by k (started plan start) Q (length entry)))
    × (exit ≡ left_unless (from_refusal due.Plan plan start) (buffer_by k (started plan start) Q entry) entry)
from_on k plan h start Q entry r p =
    let x = kind_as k Q entry (same_file start r.opened) p in
    let none = by_start due.Plan plan h start r.opened (sym r.passes) in
    (rw none x.0, rw none x.1)

-- the promises of the two cuts, from what either cut answers
pub safety-promised : (plan start Q entry : List ℕ) {exit : List ℕ} {a : CutAnswer} → ((i : ℕ) → byte_at plan i < 256)
    → (a ≡ cut_unless (from_refusal due.Plan plan start) (safety_answer (started plan start) Q (length entry))) × (exit ≡ left_unless (from_refusal due.Plan plan start) (safety_buffer (started plan start) Q entry) entry)
    → (a ≡ safety_from_answer plan start Q (length entry)) × ((exit ≡ safety_from_buffer plan start Q entry) × WritesSmallest (λ S. AcceptsFrom plan start S Q) a exit)
unfolding Bytes safety_from_answer safety_from_buffer
safety-promised plan start Q entry b (e, f) = (e, (f, writes_smallest_from plan start Q entry b e f))

pub branching-promised : (plan start Q entry : List ℕ) {exit : List ℕ} {a : CutAnswer} → ((i : ℕ) → byte_at plan i < 256)
    → (a ≡ cut_unless (from_refusal due.Plan plan start) (branching_answer (started plan start) Q (length entry))) × (exit ≡ left_unless (from_refusal due.Plan plan start) (branching_buffer (started plan start) Q entry) entry)
    → (a ≡ branching_from_answer plan start Q (length entry)) × ((exit ≡ branching_from_buffer plan start Q entry) × WritesExact (λ S. AcceptsFrom plan start S Q) (net_at plan start) a exit)
unfolding Bytes branching_from_answer branching_from_buffer
branching-promised plan start Q entry b (e, f) = (e, (f, writes_exact_from plan start Q entry b e f))
