-- A small net of edition 1, in a table of its own.
use Rattle.std.proofs.Common.{◌≡◌, ℕ, ◌+◌, ◌*◌, ◌<◌, ◌≤◌, Bool, false, ◌||◌, eqb, ltb, List, length, get_or, arith, ltb-false}
use Rattle.net.specs.Net.{Uncapped}
use Rattle.file_words.specs.Word.{Bytes}
use Rattle.file_arcs.specs.Layout.{arc_at}
use Rattle.file.specs.Facts.{Sound}
use Rattle.file_header.specs.declared.Header.{Header}
use Rattle.file.proofs.Caps.{no_cap_by}
use Rattle.file.proofs.Rows.{good_at}
use Rattle.file_words.proofs.Laws.{or-false}
use Rattle.arcs_starts.specs.Table.{Split, Tabled}
use Rattle.arcs_starts.proofs.Reached.{tabled}
use Rattle.replay_fast.specs.Moves.{Indexed}

-- a file without caps, with at most 16 transitions
pub record Small (h : Header) : Type 0 where
  pub edition : eqb h.edition 2 ≡ false
  pub transitions : h.transitions ≤ 16

pub small_net : (h : Header) (long : Bool) → ((eqb h.edition 2 || ltb 16 h.transitions) || long) ≡ false → Small h
small_net h long e =
    let few = or-false _ _ (or-false _ _ e).0 in
    record { edition = few.0; transitions = ltb-false 16 h.transitions few.1 }

module _ {s : List ℕ} {h : Header} (w : Sound s h) (few : Small h) where
  -- the table has room
  pub small_tabled : Tabled s h.arcstart h.arcs h.transitions 34
  small_tabled = tabled s h 34 w (omega (arith, few.transitions))

  pub small_ways : (i : ℕ) → i < h.arcs → (arc_at s (h.arcstart + 8 * i)).direction ≤ 1
  small_ways i l = (good_at s h w i l).direction

  pub small_indexed : Bytes s → {table m : List ℕ} → length table ≡ 17 → ((t : ℕ) → t ≤ h.transitions → Split s h.arcstart h.arcs (2 * t) (get_or table t 0)) → length m ≡ h.places → Indexed s h table m
  unfolding Uncapped
  small_indexed b long firsts places = record {
    sound = w;
    bytes = b;
    uncapped = no_cap_by s h few.edition;
    long = omega (arith, long, few.transitions);
    firsts = firsts;
    places = places;
  }
