-- "Demand 3's words are read off source and image": the instructions, settings and image of a source, and when it is accepted;
-- when an image is listed. Quotations are document 01's, and document 02's where it is named.
use Rattle.std.specs.Prelude.{ℕ, ◌+◌, ◌≡◌, Bool, true, false, ◌||◌, ℤ, pos}
use Rattle.std.proofs.Math.Option.{Option, none, some}
use mathlib.Core.List.{List, [], ◌∷◌, ◌++◌, map}
use Rattle.text_lexical.specs.Names.{Name}
use Rattle.instruction.specs.Operands.{Instruction, Amount, exactly, to, Draft}
use Rattle.instruction.specs.Words.{word_of}
use Rattle.image.specs.Settings.{Settings, begin}
use Rattle.image.specs.Program.{image}
use Rattle.image.specs.Assembling.{Effect, nothing, sets, codes, faulty, Read, changed_by, reads, words_of, address_in, distance, Assembled, accepted, rejected, assembling}
use Rattle.image.specs.Listing.{Listing, written, rejected as unlisted, listing}

-- ---- "A source's instructions are those on its lines, any label taken off, in line order"

-- "The number of such an instruction is from here the resolved distance" (document 02, a). An accepted source has each label that is named;
-- in any other, 0 stands for the distance to one that it has not.
unfoldable pub resolved : (List ℕ → Option ℕ) → ℕ → Amount → ℤ
resolved addresses words (exactly z) = z
resolved addresses words (to u) = elim (addresses u) [ some a ↦ distance words a | none ↦ pos 0 ]

-- The instruction of a draft with so many words before it, where labels have these addresses.
unfoldable pub settled : (List ℕ → Option ℕ) → ℕ → Draft → Instruction
settled addresses words d = record { row = d.row; registers = d.registers; number = elim d.amount [ some a ↦ some (resolved addresses words a) | none ↦ none ] }

unfoldable pub coded_by : (List ℕ → Option ℕ) → ℕ → Effect → List Instruction
coded_by addresses words (codes d) = settled addresses words d ∷ []
coded_by addresses words nothing = []
coded_by addresses words (sets s) = []
coded_by addresses words (faulty n) = []

unfoldable pub coded_in : (List ℕ → Option ℕ) → ℕ → List Read → List Instruction
coded_in addresses words [] = []
coded_in addresses words (r ∷ rs) = coded_by addresses words r.effect ++ coded_in addresses (words + words_of r.effect) rs

unfoldable pub instructions_of : List Name → List ℕ → List Instruction
instructions_of names source = coded_in (address_in 0 (reads names source)) 0 (reads names source)

-- ---- whether an instruction names a label (document 02, a)

-- What stands for a number is a label.
unfoldable pub is_target : Option Amount → Bool
is_target none = false
is_target (some (exactly z)) = false
is_target (some (to u)) = true

-- A line has an instruction with a label for its number,
unfoldable pub names_target : Effect → Bool
names_target (codes d) = is_target d.amount
names_target nothing = false
names_target (sets s) = false
names_target (faulty n) = false

-- and one of some lines has.
unfoldable pub any_target : List Read → Bool
any_target [] = false
any_target (r ∷ rs) = names_target r.effect || any_target rs

-- ---- "Final settings are 20, 2, 2 as changed by the `.config` lines in order."

unfoldable pub settings_in : Settings → List Read → Settings
settings_in s [] = s
settings_in s (r ∷ rs) = settings_in (changed_by s r.effect) rs

unfoldable pub settings_of : List Name → List ℕ → Settings
settings_of names source = settings_in begin (reads names source)

-- ---- "its image is the bytes then filled, none later: the header, then the words of its instructions in line order"

unfoldable pub image_of : List Name → List ℕ → List ℕ
image_of names source = image (settings_of names source) (map word_of (instructions_of names source)) []

-- ---- "A source is accepted if none of assembling's refusals meets it with the table and buffer lent"

unfoldable pub is_accepted : Assembled → Bool
is_accepted (accepted st) = true
is_accepted (rejected r) = false

-- The source is accepted with a table of so many entries and an image buffer of so many bytes.
abbrev pub Accepted : List Name → List ℕ → ℕ → ℕ → Type 0
Accepted names source table size = is_accepted (assembling names source table size) ≡ true

-- ---- what Listing accepts

unfoldable pub is_written : Listing → Bool
is_written (written t) = true
is_written (unlisted r) = false

-- The image is listed with a text buffer of so many bytes.
abbrev pub Listed : List ℕ → ℕ → Type 0
Listed b size = is_written (listing b size) ≡ true
