-- What a cut keeps is in the plan, and does not depend on its marking; a cut from a start is that of the file in which the start stands.
use Rattle.std.specs.Prelude.{Result}
use Prim.Native.Nat.{ℕ, ◌<◌}
use mathlib.Core.List.{List}
use mathlib.Core.Path.{◌≡◌, refl, subst, subst⁻¹}
use Rattle.net.specs.Net.{Net, Marking, input, output, changes, raises, takes_from, adds_to, capped}
use Rattle.net.specs.Numbers.{selected}
use Rattle.net.specs.Slice.{keeping}
use Rattle.net.specs.Cut.{Growth, growth, safety, branching}
use Rattle.file_words.specs.Word.{byte_at}
use Rattle.file.specs.Layout.{net_from}
use Rattle.file_header.specs.declared.Due.{Due}
use Rattle.file_header.specs.declared.Header.{Header}
use Rattle.promise.specs.Together.{standing}
use Rattle.promise.specs.Starts.{starting_at, started_from}
use Rattle.sets.specs.Member.{member}
use Rattle.sets.specs.declared.KeptSets.{KeptSets}
use Rattle.inputs_starts.specs.Startable.{Startable}
use Rattle.inputs_starts.proofs.Calls.{started-at}
use Rattle.cut.specs.Kept.{draws_all, growth_of, Kept}
use Rattle.cut.specs.declared.Kind.{Kind}
use Rattle.cut.specs.declared.Kind.TheVariants.{Safety, Branching}
use Rattle.slice.specs.Kept.{kept_slice, Within, Answers}
use Rattle.slice.specs.declared.Written.{Written}
use Rattle.refusals.specs.declared.Refusal.{Refusal}
use Rattle.starting.specs.Cuts.{Cuts}

pub within : (k : Kind) (s : List ℕ) (h : Header) (Q : List ℕ) (kept : KeptSets) → Kept (growth_of (draws_all k) (net_from s h) Q) kept → Within kept h
unfolding safety branching growth
within Safety s h Q kept x = record { places = x.places_below; transitions = x.transitions_below }
within Branching s h Q kept x = record { places = x.places_below; transitions = x.transitions_below }

-- a cut grows by arcs and caps
growth-same : (k : Kind) (M : Marking) (N : Net) (Q : List ℕ) → growth_of (draws_all k) N Q ≡ growth_of (draws_all k) (starting_at M N) Q
unfolding safety branching growth changes raises takes_from adds_to capped input output
growth-same Safety M N Q = refl
growth-same Branching M N Q = refl

as_slice : (s : List ℕ) (h : Header) (kept : KeptSets) {entry exit : List ℕ} {r : Result Written Refusal}
    → Answers h.edition (keeping (net_from s h) (selected (member kept.places) 0 h.places) (selected (member kept.transitions) 0 h.transitions)) entry exit r
    → Answers h.edition (kept_slice s h kept) entry exit r
unfolding kept_slice
as_slice s h kept a = a

pub cut_started : (k : Kind) {d : Due} {s : List ℕ} {h : Header} {start Q entry exit : List ℕ} {r : Result Written Refusal} (kept : KeptSets) → Startable d s h start → ((i : ℕ) → byte_at s i < 256)
    → Kept (growth_of (draws_all k) (net_from s h) Q) kept
    → Answers h.edition (keeping (starting_at (standing start) (net_from s h)) (selected (member kept.places) 0 h.places) (selected (member kept.transitions) 0 h.transitions)) entry exit r
    → Cuts k (started_from s h start) h Q entry exit r
cut_started k {s = s} {h} {start} {Q} {entry} {exit} {r} kept y b x a =
    let e = started-at y b in
    record {
      kept = kept;
      sets = subst⁻¹ (λ (N : Net). Kept (growth_of (draws_all k) N Q) kept) e (subst (λ (G : Growth). Kept G kept) (growth-same k (standing start) (net_from s h) Q) x);
      answers =
          as_slice (started_from s h start) h kept
          (subst⁻¹ (λ (N : Net). Answers h.edition (keeping N (selected (member kept.places) 0 h.places) (selected (member kept.transitions) 0 h.transitions)) entry exit r) e a);
    }
