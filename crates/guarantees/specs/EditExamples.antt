-- Examples of edits, over the present names: pairs of sources, the bytes in which their images differ, and which pairs are edits.
use Rattle.std.specs.Prelude.{ℕ, suc, ◌≡◌, Bool, ◌&&◌, true, false, List, [], ◌∷◌, length, eqb}
use Prim.Native.String.{String}
use Rattle.text_lexical.specs.Bytes.{bytes, same}
use Rattle.text_lexical.specs.Names.{present}
use Rattle.image.specs.Assembling.{assembling}
use Rattle.image.specs.Meaning.{image_of, is_accepted}
use Rattle.guarantees.specs.Edits.{Edit, place, ended}

-- Two sources, how long their images are, and the places of the bytes that are not the same in both, or in one only.
pub record Pair : Type 0 where
  pub source : List ℕ
  pub source' : List ℕ
  pub size : ℕ
  pub size' : ℕ
  pub places : List ℕ

-- Those places, of bytes from a place on.
unfoldable pub differing : ℕ → List ℕ → List ℕ → List ℕ
differing at [] [] = []
differing at (b ∷ s) [] = at ∷ differing (suc at) s []
differing at [] (c ∷ t) = at ∷ differing (suc at) [] t
differing at (b ∷ s) (c ∷ t) = elim (eqb b c) [ true ↦ differing (suc at) s t | false ↦ at ∷ differing (suc at) s t ]

-- Both sources are accepted, with a table of 1,024 entries and an image buffer of 65,536 bytes, and their images differ just there.
unfoldable pub differs : Pair → Bool
differs p =
    is_accepted (assembling present p.source 1024 65536) && (is_accepted (assembling present p.source' 1024 65536)
    && (eqb (length (image_of present p.source)) p.size && (eqb (length (image_of present p.source')) p.size'
    && same (differing 0 (image_of present p.source) (image_of present p.source')) p.places)))

unfoldable pub pair : String → String → (size size' : ℕ) → List ℕ → Pair
pair s s' n n' places = record { source = bytes s; source' = bytes s'; size = n; size' = n'; places = places }

-- ---- edits

-- Another number, on a line that another jumps to.
unfoldable pub renumbered : Pair
renumbered = pair "a: addi r1, r0, 1\njal r0, a" "a: addi r1, r0, 70\njal r0, a" 40 40 (33 ∷ 34 ∷ [])

-- Another instruction, which jumps to a label where the first names none; blanks and a comment.
unfoldable pub replaced : Pair
replaced = pair "a: addi r1, r0, 1\nb: jal r0, a" "a : jal r0, b # x\nb: jal r0, a" 40 40 (32 ∷ 33 ∷ [])

-- A jump to another label.
unfoldable pub retargeted : Pair
retargeted = pair "a: ecall\njal r0, a\nb: ecall" "a: ecall\njal r0, b\nb: ecall" 44 44 (37 ∷ 38 ∷ 39 ∷ [])

-- The distance as a number.
unfoldable pub counted : Pair
counted = pair "a: ecall\nbeq r1, r2, a" "a: ecall\nbeq r1, r2, -4" 40 40 []

-- A comment.
unfoldable pub commented : Pair
commented = pair "jal r0, a\necall\na:" "jal r0, a # same\necall\na:" 40 40 []

-- Another number, on a line that another jumps over. Three lines are above it, and one word.
unfoldable pub jumped : Pair
jumped =
    pair "# one\n.config limb_bits 24\njal r0, b\naddi r1, r0, 1\nb: ecall" "# one\n.config limb_bits 24\njal r0, b\naddi r1, r0, 70\nb: ecall" 44 44
    (37 ∷ 38 ∷ [])

-- Another instruction, and a final byte 10.
unfoldable pub finished : Pair
finished = pair "ecall" "ebreak\n" 36 36 (32 ∷ [])

unfoldable pub edited : List Pair
edited = renumbered ∷ replaced ∷ retargeted ∷ counted ∷ commented ∷ jumped ∷ finished ∷ []

-- The pair is an edit, once a final byte 10 is added to either, both or none, with so many lines above the edited one, whose word has this place.
pub record IsEdit (p : Pair) (b b' : Bool) (above at : ℕ) : Type 0 where
  pub edit : Edit present (ended b p.source) (ended b' p.source')
  pub lines_above : length edit.above ≡ above
  pub stands_at : place edit ≡ at

-- ---- no edits

-- The label is gone: images are equal here, and labels are not.
unfoldable pub unlabelled : Pair
unlabelled = pair "x: ecall\necall" "ecall\necall" 40 40 []

-- The instruction is gone: the code size differs, and the bytes from the second word on.
unfoldable pub removed : Pair
removed = pair "ecall\na: ecall\njal r0, a" "# gone\na: ecall\njal r0, a" 44 40 (16 ∷ 36 ∷ 37 ∷ 38 ∷ 39 ∷ 40 ∷ 41 ∷ 42 ∷ 43 ∷ [])

-- A label without an instruction gets one.
unfoldable pub added : Pair
added = pair "ecall\njal r0, a\na:" "ecall\njal r0, a\na: ecall" 40 44 (16 ∷ 40 ∷ 41 ∷ 42 ∷ 43 ∷ [])

unfoldable pub unedited : List Pair
unedited = unlabelled ∷ removed ∷ added ∷ []
