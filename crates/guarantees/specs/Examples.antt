-- The starred examples of document 01, as one table, and examples of our own. Document 02's c) changes three of the starred ones.
use Rattle.std.specs.Prelude.{ℕ, Bool, false, List, [], ◌∷◌, map, length}
use Prim.Native.String.{String}
use Rattle.text_lexical.specs.Bytes.{bytes, same}
use Rattle.text_lexical.specs.Names.{present}
use Rattle.instruction.specs.Words.{word_of}
use Rattle.image.specs.Settings.{Settings}
use Rattle.image.specs.Assembling.{Refusal, Assembled, accepted, rejected, assembling}
use Rattle.image.specs.Meaning.{instructions_of, settings_of, image_of}

-- What an example states: the image's bytes, the words, the settings, or a refusal's number, both lines and label count.
pub data Expected : Type 0 where
  image_is : List ℕ → Expected
  words_are : List ℕ → Expected
  settings_are : (limb_bits data_limbs addr_limbs : ℕ) → Expected
  refused_with : (number rust_line true_line labels : ℕ) → Expected

pub record Example : Type 0 where
  pub source : List ℕ
  pub expected : Expected

unfoldable pub settings_list : Settings → List ℕ
settings_list s = s.limb_bits ∷ s.data_limbs ∷ s.addr_limbs ∷ []

unfoldable pub refusal_list : Refusal → List ℕ
refusal_list r = r.number ∷ r.rust_line ∷ r.true_line ∷ length r.labels ∷ []

unfoldable pub meets : Expected → List ℕ → Assembled → Bool
meets (image_is b) source (accepted st) = same b (image_of present source)
meets (words_are ws) source (accepted st) = same ws (map word_of (instructions_of present source))
meets (settings_are a b c) source (accepted st) = same (a ∷ b ∷ c ∷ []) (settings_list (settings_of present source))
meets (refused_with n rust line labels) source (accepted st) = false
meets (image_is b) source (rejected r) = false
meets (words_are ws) source (rejected r) = false
meets (settings_are a b c) source (rejected r) = false
meets (refused_with n rust line labels) source (rejected r) = same (n ∷ rust ∷ line ∷ labels ∷ []) (refusal_list r)

-- With a table of 1,024 entries and an image buffer of 65,536 bytes.
unfoldable pub holds : Example → Bool
holds e = meets e.expected e.source (assembling present e.source 1024 65536)

unfoldable pub gives : String → Expected → Example
gives s e = record { source = bytes s; expected = e }

-- The program's example.
unfoldable pub program : String
program = "start: ADDI a0, zero, -1 # one\n.config limb_bits 24\nsw a0, 8(sp)\njal ra, 0x1FFFFE\necall\n"

unfoldable pub starred : List Example
starred =
    gives "" (image_is
    (0x5A ∷ 0x4B ∷ 0x49 ∷ 0x52 ∷ 0x04 ∷ 0x00 ∷ 0x03 ∷ 0x00 ∷ 0x14 ∷ 0x02 ∷ 0x02 ∷ 0x00 ∷ 0x00 ∷ 0x10 ∷ 0x00 ∷ 0x00
    ∷ 0 ∷ 0 ∷ 0 ∷ 0 ∷ 0 ∷ 0 ∷ 0 ∷ 0 ∷ 0 ∷ 0 ∷ 0 ∷ 0 ∷ 0x00 ∷ 0x00 ∷ 0x10 ∷ 0x00 ∷ []))
    ∷ gives "add r1, r2, r3" (words_are (0x00019080 ∷ []))
    ∷ gives "slli r1, r2, 300" (refused_with 35 1 1 0)
    ∷ gives "beq r1, r2, 131072" (refused_with 35 1 1 0)
    ∷ gives ".config limb_bits 276" (refused_with 35 1 1 0)
    ∷ gives ".config limb_bits 15" (refused_with 10 1 1 0)
    ∷ gives ".config limb_bits 17" (refused_with 11 1 1 0)
    ∷ gives "r1:" (refused_with 14 1 1 0)
    ∷ gives "ADD R1, r2, r3" (refused_with 17 1 1 0)
    ∷ gives "add a5, r1, r1" (refused_with 18 0 1 0)
    ∷ gives "foo: bar:" (refused_with 15 1 1 1)
    ∷ gives program (words_are (0xFFFF8588 ∷ 0x0004593A ∷ 0xFFFFF0C8 ∷ 0x00000050 ∷ []))
    ∷ []

-- Examples of our own. The starred examples do not say which settings an accepted `.config` line leads to.
unfoldable pub unstarred : List Example
unstarred =
    gives ".config limb_bits 24" (settings_are 24 2 2)
    ∷ gives ".config limb_bits 24\n.config limb_bits 276" (refused_with 35 2 2 0)
    -- Document 02, a: a label on the line itself, after it and before it; none, and no Identifier.
    ∷ gives "x: jal r0, x" (words_are (0x00000048 ∷ []))
    ∷ gives "beq r1, r2, end\nadd r1, r2, r3\nend:" (words_are (0x000410C0 ∷ 0x00019080 ∷ []))
    ∷ gives "a: ecall\njal r0, a" (words_are (0x00000050 ∷ 0xFFFFE048 ∷ []))
    ∷ gives "jal ra, nope" (refused_with 33 1 1 0)
    ∷ gives "jal ra, nope\nfoo r1" (refused_with 15 2 2 0)
    ∷ gives "jal r1, a5" (refused_with 8 0 1 0)
    ∷ []

-- Document 02, c: a line that is refused for a number out of its range.
unfoldable pub out_of_range : String → Example
out_of_range s = gives s (refused_with 35 1 1 0)

-- Where ranges end, and what a line is refused for first.
unfoldable pub ranged : List Example
ranged =
    -- Each end of the three ranges, and one past it; as bits, as many as a field has, and one more.
    gives "addi r1, r0, 65535" (words_are (0x7FFF8088 ∷ []))
    ∷ out_of_range "addi r1, r0, 65536"
    ∷ gives "addi r1, r0, -65536" (words_are (0x80000088 ∷ []))
    ∷ out_of_range "addi r1, r0, -65537"
    ∷ gives "addi r1, r0, 0x1FFFF" (words_are (0xFFFF8088 ∷ []))
    ∷ out_of_range "addi r1, r0, 0x20000"
    ∷ gives "jal r1, 1048575" (words_are (0x7FFFF8C8 ∷ []))
    ∷ out_of_range "jal r1, 1048576"
    ∷ gives "jal r1, -1048576" (words_are (0x800000C8 ∷ []))
    ∷ out_of_range "jal r1, -1048577"
    ∷ gives "jal r1, 0x1FFFFF" (words_are (0xFFFFF8C8 ∷ []))
    ∷ out_of_range "jal r1, 0x200000"
    -- A pattern of bits may be more than the range has as a decimal: document 02's own number, in both spellings.
    ∷ gives "jal ra, 0x1FFFFE" (words_are (0xFFFFF0C8 ∷ []))
    ∷ out_of_range "jal ra, 2097150"
    ∷ gives "beq r1, r2, -65536" (words_are (0x800010C0 ∷ []))
    ∷ gives "sw r1, 65535(r2)" (words_are (0x7FFF893A ∷ []))
    ∷ gives "slli r1, r2, 255" (words_are (0x007F909B ∷ []))
    ∷ out_of_range "slli r1, r2, 256"
    ∷ gives "slli r1, r2, -0" (words_are (0x0000109B ∷ []))
    ∷ out_of_range "slli r1, r2, -1"
    ∷ gives "slli r1, r2, 0b11111111" (words_are (0x007F909B ∷ []))
    ∷ out_of_range "slli r1, r2, 0b100000000"
    ∷ out_of_range "slli r1, r2, 0x100"
    -- A bad token is no number, and a number of 64 bits is out of its range.
    ∷ gives "addi r1, r0, 9223372036854775808" (refused_with 3 0 1 0)
    ∷ out_of_range "addi r1, r0, -9223372036854775808"
    -- 16 comes first. A fault to the left of the number comes before 35, and one to the right after it. The line's label has been entered.
    ∷ gives "lw r1, 70000" (refused_with 16 1 1 0)
    ∷ gives "addi a5, r0, 70000" (refused_with 18 0 1 0)
    ∷ gives "addi r1, x, 70000" (refused_with 17 1 1 0)
    ∷ out_of_range "lw r1, 70000, r2)"
    ∷ gives "x: addi r1, r0, 70000" (refused_with 35 1 1 1)
    -- A setting is refused by 7 or 8 first, then by 35, then by 9, and by 10 to 13 last.
    ∷ gives ".config r1 256" (refused_with 7 1 1 0)
    ∷ gives ".config limb_bits x" (refused_with 8 0 1 0)
    ∷ out_of_range ".config foo 256"
    ∷ out_of_range ".config limb_bits -1"
    ∷ gives ".config foo 255" (refused_with 9 1 1 0)
    ∷ gives ".config limb_bits 255" (refused_with 10 1 1 0)
    ∷ gives ".config limb_bits 24\n.config limb_bits 0x14" (settings_are 20 2 2)
    ∷ []

-- What the program prints for its example.
unfoldable pub printed : String
printed = ".config limb_bits 24\n.config data_limbs 2\n.config addr_limbs 2\naddi r11, r0, -1\nsw r11, 8(r2)\njal r1, -2\necall\n"
