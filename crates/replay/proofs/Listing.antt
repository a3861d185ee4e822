-- What is known of a list and a marking that are not refused.
use Prim.Native.Nat.{ℕ, ◌≤◌}
use mathlib.Core.Path.{◌≡◌, sym, ◌∙◌}
use mathlib.Core.List.{List}
use borrow.Author.Tests.{ltb-false}
use lib.Dec.{ltb}
use Rattle.file_words.specs.Refusal.{refuse}
use Rattle.file_header.specs.declared.Header.{Header}
use Rattle.file_words.proofs.Laws.{refuse-0, or_else_0}
use Rattle.promise.specs.Firing.{list_refusal}
use Rattle.replay.specs.Told.{held_back}

module _ (h : Header) (list : List ℕ) (room : ℕ) {n : ℕ} (e : n ≡ held_back h list room) (z : n ≡ 0) where
  parts : (list_refusal h.transitions list ≡ 0) × (refuse (ltb room h.places) 13 0 ≡ 0)
  parts = or_else_0 (list_refusal h.transitions list) (refuse (ltb room h.places) 13 0) (sym e ∙ z)

  pub list_passes : list_refusal h.transitions list ≡ 0
  list_passes = parts.0

  pub room_enough : h.places ≤ room
  room_enough = ltb-false room h.places (refuse-0 (ltb room h.places) 12 0 parts.1).0
