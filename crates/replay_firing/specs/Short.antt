-- The tokens that are missing on a place, by one of its input arcs.
use Rattle.std.specs.Prelude.{ℕ, ◌+◌, ◌*◌, ◌≤◌, ◌<◌, List, ◌≡◌}
use Rattle.net.specs.Net.{input, weight_on}
use Rattle.net.specs.declared.Arc.{Arc}
use Rattle.file_arcs.specs.Layout.{arc_at, arcs_from}
use Rattle.file.specs.Layout.{net_from}
use Rattle.file.specs.Facts.{Sound}
use Rattle.file_header.specs.declared.Header.{Header}

-- arc j of the file
abbrev pub arc_on : List ℕ → Header → ℕ → Arc
arc_on s h j = arc_at s (h.arcstart + 8 * j)

-- in(p,t), at the place and the transition of arc j: the sum over all arcs that join them so
abbrev pub need_at : List ℕ → Header → ℕ → ℕ
need_at s h j = input (net_from s h) (arc_on s h j).place (arc_on s h j).transition

-- the place of input arc j holds `count`, and the arcs up to j take `need`, more than that
pub record Lacking (s : List ℕ) (h : Header) (j need count : ℕ) : Type 0 where
  pub sound : Sound s h
  pub known : j < h.arcs
  pub input : (arc_on s h j).direction ≡ 0
  pub so_far : need ≡ weight_on 0 (arc_on s h j).place (arc_on s h j).transition (arcs_from s h.arcstart (j + 1))
  pub low : need ≤ 268435456
  pub over : count < need
