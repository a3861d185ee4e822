-- Plans from PNML (document 02, A10), as a computation over bytes, and what the plan is. `s` is a text.
use Rattle.std.specs.Prelude.{ℕ, ◌+◌, ◌≤◌, ◌<◌, true, false, not, List, [], map, ◌≡◌, ◌↔◌, ◌≢◌, length, take, get_or, ltb}
use Rattle.net.specs.Net.{Net, input, output, Uncapped}
use Rattle.net.specs.Normal.{SameNet}
use Rattle.file_header.specs.Layout.{header_of}
use Rattle.file_header.specs.declared.Due.TheVariants as due
use Rattle.file.specs.Layout.{net_of}
use Rattle.file_words.specs.Refusal.{refuse, or_else}
use Rattle.file.specs.Refusal.{file_refusal}
use Rattle.file_writing.specs.Writing.{plan_bytes}
use Rattle.pnml_page.specs.Profile.{Drawing, drawing, of_profile}
use Rattle.pnml_names.specs.declared.Which.TheVariants.{Places, Transitions, Arcs}
use Rattle.pnml_net.specs.Named.{entries, ids, misnamed, unfit, arcs_named, net_named}
use Rattle.pnml_net.specs.Drawn.{drawn, parallels}
use Rattle.promise.specs.Calls.{written}
use Rattle.promise.specs.Normal.{FileAnswer, file_answer}

-- "1 above 65,536 bytes of text. 18: text outside the profile. 19 .. 20 .. Each is tested over the whole text, in this order, before the buffer"
unfoldable pub pnml_refusal : List ℕ → ℕ
pnml_refusal s = refuse (ltb 65536 (length s)) 1 (refuse (not (of_profile s)) 18 (refuse (misnamed (drawing s)) 19 (refuse (unfit (drawing s)) 20 0)))

-- "an edition 1 plan file without note"
unfoldable pub pnml_file : List ℕ → List ℕ
pnml_file s = plan_bytes 1 (net_named (drawing s))

-- then 13 where the buffer of `room` bytes is shorter than that file
unfoldable pub pnml_write_refusal : List ℕ → ℕ → ℕ
pnml_write_refusal s room = or_else (pnml_refusal s) (refuse (ltb room (length (pnml_file s))) 13 0)

-- "The call .. returns the file's length", the buffer having `room` bytes
unfoldable pub pnml_answer : List ℕ → ℕ → FileAnswer
pnml_answer s room = file_answer (pnml_write_refusal s room) (length (pnml_file s))

-- the buffer afterwards
unfoldable pub pnml_buffer : List ℕ → List ℕ → List ℕ
pnml_buffer s buffer = written (pnml_write_refusal s (length buffer)) (pnml_file s) buffer

-- "The converted net is the net that the text names": its places and transitions by order of appearance, and between the ids of each two the sums that the text draws
pub record NetOfText (d : Drawing) (N : Net) : Type 0 where
  pub places : N.places ≡ length (entries Places d)
  pub transitions : N.transitions ≡ length (entries Transitions d)
  pub marking : (p : ℕ) → p < N.places → N.marking p ≡ get_or (map (λ e. e.number) (entries Places d)) p 0
  pub uncapped : Uncapped N
  pub taken : (p t : ℕ) → p < N.places → t < N.transitions → input N p t ≡ drawn (get_or (ids Places d) p []) (get_or (ids Transitions d) t []) (entries Arcs d)
  pub given : (p t : ℕ) → p < N.places → t < N.transitions → output N p t ≡ drawn (get_or (ids Transitions d) t []) (get_or (ids Places d) p []) (entries Arcs d)
  -- "parallels kept in order of appearance"
  pub in_order : (k : ℕ) → parallels k N.arcs ≡ parallels k (arcs_named d)

-- what the call wrote, by its answer `a` and its buffer afterwards, `exit`: the file is `take a.length exit`
pub record WritesNamed (s : List ℕ) (a : FileAnswer) (exit : List ℕ) : Type 0 where
  pub long : a.refused ≡ false → a.length ≤ length exit
  pub read : a.refused ≡ false → file_refusal due.Plan (take a.length exit) ≡ 0
  pub net : a.refused ≡ false → net_of (take a.length exit) ≡ net_named (drawing s)
  pub named : a.refused ≡ false → NetOfText (drawing s) (net_of (take a.length exit))
  -- "an edition 1 plan file without note"
  pub edition : a.refused ≡ false → (header_of (take a.length exit)).edition ≡ 1
  pub no_note : a.refused ≡ false → (header_of (take a.length exit)).markstart ≡ 0

-- what people conclude: a text names one net
pub record OneNet (N N' : Net) : Type 0 where
  pub same : SameNet N N'
  pub in_order : (k : ℕ) → parallels k N.arcs ≡ parallels k N'.arcs

-- no "count or number past its limit", no "weight of 0", and not "neither place nor transition"
pub record Within (d : Drawing) : Type 0 where
  pub places : length (entries Places d) ≤ 1024
  pub transitions : length (entries Transitions d) ≤ 1024
  pub arcs : length (entries Arcs d) ≤ 4096
  pub some : 0 < length (entries Places d) + length (entries Transitions d)
  pub markings : (k : ℕ) → get_or (map (λ e. e.number) (entries Places d)) k 0 ≤ 4294967295
  pub weights : (k : ℕ) → k < length (entries Arcs d) → (1 ≤ get_or (map (λ e. e.number) (entries Arcs d)) k 0) × (get_or (map (λ e. e.number) (entries Arcs d)) k 0 ≤ 65535)

-- what 1 and 20 mean
pub record TextLimits (s : List ℕ) : Type 0 where
  pub long : 65536 < length s → pnml_refusal s ≡ 1
  pub short : length s ≤ 65536 → pnml_refusal s ≢ 1
  pub twenty : length s ≤ 65536 → of_profile s ≡ true → misnamed (drawing s) ≡ false → (pnml_refusal s ≡ 0) ↔ Within (drawing s)
