-- Rows for plans from PNML (document 02, A10), worked out by hand.
use Rattle.std.specs.Prelude.{ℕ, true, false, List, [], ◌∷◌, ◌++◌, ◌≡◌}
use Rattle.pnml_text.specs.Words.{bytes}
use Rattle.promise.specs.Pnml.{pnml_refusal, pnml_file, pnml_answer, pnml_buffer}

-- a text with these elements
abbrev pub text : List ℕ → List ℕ
text s =
    bytes "<pnml xmlns=\"http://www.pnml.org/version-2009/grammar/pnml\">\n<net id=\"n\" type=\"http://www.pnml.org/version-2009/grammar/ptnet\">\t<page id=\"g\">"
    ++ s ++ bytes "</page>\r</net></pnml> "

-- a place with three tokens, from which a transition takes one
abbrev pub one : List ℕ
one = text (bytes "<place id=\"p\"><initialMarking><text>3</text></initialMarking></place><transition id=\"t\"/> <arc id=\"a\" source=\"p\" target=\"t\"/>")

-- the same with a marking and a weight
abbrev pub with : List ℕ → List ℕ → List ℕ
with m w =
    text (bytes "<place id=\"A_.-9\">\t<initialMarking>\r<text>" ++ m ++ bytes "</text>\n</initialMarking> </place><transition id=\"Zz\"> </transition><arc id=\"a\" source=\"Zz\" target=\"A_.-9\"><inscription><text>" ++ w ++ bytes "</text></inscription></arc>")

pub record PnmlRows : Type 0 where
  pub file : pnml_file one ≡ 3 ∷ 0 ∷ 0 ∷ 0 ∷ 0 ∷ 0 ∷ 0 ∷ 0 ∷ 0 ∷ 0 ∷ 1 ∷ 0 ∷ 12 ∷ 0 ∷ 0 ∷ 0 ∷ 1 ∷ 0 ∷ 1 ∷ 0 ∷ 1 ∷ 0 ∷ 0 ∷ 1 ∷ 0x42 ∷ 0x45 ∷ 0x4C ∷ 0x4C ∷ []
  pub answer : pnml_answer one 28 ≡ record { refused = false; refusal = 0; length = 28 }
  pub little_room : pnml_answer one 27 ≡ record { refused = true; refusal = 13; length = 0 }
  pub kept : pnml_buffer one (9 ∷ []) ≡ 9 ∷ []
  pub past : pnml_buffer one (pnml_file one ++ (9 ∷ 8 ∷ [])) ≡ pnml_file one ++ (9 ∷ 8 ∷ [])
  -- a transition's output; the limits of numbers, with zeros before them; each white space; each sort of character
  pub most : pnml_file (with (bytes "4294967295") (bytes "0065535")) ≡ 255 ∷ 255 ∷ 255 ∷ 255 ∷ 0 ∷ 0 ∷ 1 ∷ 0 ∷ 0 ∷ 0 ∷ 255 ∷ 255 ∷ 12 ∷ 0 ∷ 0 ∷ 0 ∷ 1 ∷ 0 ∷ 1 ∷ 0 ∷ 1 ∷ 0 ∷ 0 ∷ 1 ∷ 0x42 ∷ 0x45 ∷ 0x4C ∷ 0x4C ∷ []
  pub fits : pnml_refusal (with (bytes "4294967295") (bytes "0065535")) ≡ 0
  pub marking_above : pnml_refusal (with (bytes "4294967296") (bytes "1")) ≡ 20
  pub weight_above : pnml_refusal (with (bytes "0") (bytes "65536")) ≡ 20
  pub weight_none : pnml_refusal (with (bytes "0") (bytes "0")) ≡ 20
  pub blank : pnml_refusal (with (bytes " 3") (bytes "1")) ≡ 18
  pub no_digits : pnml_refusal (with [] (bytes "1")) ≡ 18
  -- "A missing marking is 0"; arcs in order, parallel ones as they appear
  pub in_order : pnml_file (text (bytes "<arc id=\"a\" source=\"t\" target=\"p\"><inscription><text>7</text></inscription></arc><arc id=\"b\" source=\"t\" target=\"p\"/><transition id=\"t\"/><arc id=\"c\" source=\"p\" target=\"t\"></arc><place id=\"p\"/>"))
      ≡ 0 ∷ 0 ∷ 0 ∷ 0 ∷ 0 ∷ 0 ∷ 0 ∷ 0 ∷ 0 ∷ 0 ∷ 1 ∷ 0 ∷ 0 ∷ 0 ∷ 1 ∷ 0 ∷ 0 ∷ 0 ∷ 7 ∷ 0 ∷ 0 ∷ 0 ∷ 1 ∷ 0 ∷ 0 ∷ 0 ∷ 1 ∷ 0 ∷ 28 ∷ 0 ∷ 0 ∷ 0 ∷ 1 ∷ 0 ∷ 1 ∷ 0 ∷ 3 ∷ 0 ∷ 0 ∷ 1 ∷ 0x42 ∷ 0x45 ∷ 0x4C ∷ 0x4C ∷ []
  -- "ids have 1 to 32 characters"
  pub long_id : pnml_refusal (text (bytes "<place id=\"12345678901234567890123456789012\"/>")) ≡ 0
  pub longer_id : pnml_refusal (text (bytes "<place id=\"123456789012345678901234567890123\"/>")) ≡ 18
  pub no_id : pnml_refusal (text (bytes "<place id=\"\"/>")) ≡ 18
  pub no_text : pnml_refusal [] ≡ 18
  -- 19
  pub net_id : pnml_refusal (text (bytes "<place id=\"n\"/>")) ≡ 19
  pub page_id : pnml_refusal (text (bytes "<place id=\"g\"/>")) ≡ 19
  pub arc_id : pnml_refusal (text (bytes "<place id=\"p\"/><transition id=\"t\"/><arc id=\"p\" source=\"p\" target=\"t\"/>")) ≡ 19
  pub no_end : pnml_refusal (text (bytes "<place id=\"p\"/><arc id=\"a\" source=\"p\" target=\"g\"/>")) ≡ 19
  pub same_sort : pnml_refusal (text (bytes "<place id=\"p\"/><place id=\"q\"/><arc id=\"a\" source=\"p\" target=\"q\"/>")) ≡ 19
  -- in order: 18, 19, 20, 13
  pub outside_first : pnml_refusal (text (bytes "<place id=\"n\"/><place>")) ≡ 18
  pub name_next : pnml_refusal (text (bytes "<place id=\"n\"><initialMarking><text>4294967296</text></initialMarking></place>")) ≡ 19
  pub number_next : pnml_answer (text []) 0 ≡ record { refused = true; refusal = 20; length = 0 }

-- texts outside the profile: each is 18
pub record OutsideRows : Type 0 where
  pub declaration : pnml_refusal (bytes "<?xml version=\"1.0\"?>" ++ text (bytes "<place id=\"p\"/>")) ≡ 18
  pub comment : pnml_refusal (text (bytes "<!-- --><place id=\"p\"/>")) ≡ 18
  pub entity : pnml_refusal (text (bytes "<place id=\"p&amp;q\"/>")) ≡ 18
  pub other_character : pnml_refusal (text (bytes "<place id=\"p^q\"/>")) ≡ 18
  pub spaced_name : pnml_refusal (text (bytes "<place id=\"p q\"/>")) ≡ 18
  pub name_element : pnml_refusal (text (bytes "<place id=\"p\"><name><text>p</text></name></place>")) ≡ 18
  pub single_quotes : pnml_refusal (text (bytes "<place id='p'/>")) ≡ 18
  pub two_spaces : pnml_refusal (text (bytes "<place  id=\"p\"/>")) ≡ 18
  pub space_before_close : pnml_refusal (text (bytes "<place id=\"p\" />")) ≡ 18
  pub other_attribute : pnml_refusal (text (bytes "<place id=\"p\" x=\"y\"/>")) ≡ 18
  pub attributes_exchanged : pnml_refusal (text (bytes "<place id=\"p\"/><transition id=\"t\"/><arc id=\"a\" target=\"t\" source=\"p\"/>")) ≡ 18
  pub marking_twice : pnml_refusal (text (bytes "<place id=\"p\"><initialMarking><text>1</text></initialMarking><initialMarking><text>1</text></initialMarking></place>")) ≡ 18
  pub marking_of_transition : pnml_refusal (text (bytes "<transition id=\"t\"><initialMarking><text>1</text></initialMarking></transition>")) ≡ 18
  pub inscription_of_place : pnml_refusal (text (bytes "<place id=\"p\"><inscription><text>1</text></inscription></place>")) ≡ 18
  pub empty_text : pnml_refusal (text (bytes "<place id=\"p\"><initialMarking><text/></initialMarking></place>")) ≡ 18
  pub blank_after_digits : pnml_refusal (text (bytes "<place id=\"p\"><initialMarking><text>1 </text></initialMarking></place>")) ≡ 18
  pub sign : pnml_refusal (text (bytes "<place id=\"p\"><initialMarking><text>+1</text></initialMarking></place>")) ≡ 18
  pub upper_case : pnml_refusal (text (bytes "<Place id=\"p\"/>")) ≡ 18
  pub other_text : pnml_refusal (text (bytes "<place id=\"p\"/>x")) ≡ 18
  pub second_page : pnml_refusal (text (bytes "<place id=\"p\"/></page><page id=\"h\">")) ≡ 18
  pub other_space : pnml_refusal (text (14 ∷ bytes "<place id=\"p\"/>")) ≡ 18
  pub after_the_end : pnml_refusal (text (bytes "<place id=\"p\"/>") ++ bytes "<") ≡ 18
