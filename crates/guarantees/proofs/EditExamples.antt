-- The examples of edits hold, by computation over the definitions.
use mathlib.Core.Path.{◌≡◌, refl, ap}
use mathlib.Core.Bool.{true, false}
use mathlib.Core.Option.{none, some}
use mathlib.Core.List.{[], ◌∷◌}
use native.Mathlib.Omega.{arith}
use Rattle.std.specs.Prelude.{ℕ, length, pos, negsuc}
use Rattle.text_lexical.specs.Bytes.{bytes, each}
use Rattle.text_lexical.specs.Names.{present}
use Rattle.instruction.specs.Table.{row, I, Branch, Jump, System}
use Rattle.instruction.specs.Operands.{exactly, to}
use Rattle.image.proofs.Walking.{words_in, own_label, labels_in}
use Rattle.guarantees.specs.Edits.{left_by, Edit}
use Rattle.guarantees.specs.Targets.{drafted_by, drafted}
use Rattle.guarantees.specs.EditExamples.{differing, differs, pair, renumbered, replaced, retargeted, counted, commented, jumped, finished, edited, IsEdit, unlabelled, removed, added, unedited}
use Rattle.guarantees.proofs.Computing.{computing}
use Rattle.guarantees.proofs.Edits.{edit-alike}

-- Every entry of both tables.
pub edited-differ : each differs edited ≡ true
unfolding differing differs pair renumbered replaced retargeted counted commented jumped finished edited computing
edited-differ = refl

pub unedited-differ : each differs unedited ≡ true
unfolding differing differs pair unlabelled removed added unedited computing
unedited-differ = refl

-- Those of the first are edits.
pub renumbered-edit : IsEdit renumbered false false 0 32
unfolding left_by drafted_by drafted pair renumbered computing
renumbered-edit =
    record {
      edit = record {
        above = [];
        line = bytes "a: addi r1, r0, 1";
        line' = bytes "a: addi r1, r0, 70";
        below = bytes "jal r0, a" ∷ [];
        stands = refl;
        stands' = refl;
        label = some (bytes "a");
        draft = record { row = row "addi" 0x08 I; registers = 1 ∷ 0 ∷ []; amount = some (exactly (pos 1)) };
        draft' = record { row = row "addi" 0x08 I; registers = 1 ∷ 0 ∷ []; amount = some (exactly (pos 70)) };
        holds = refl;
        holds' = refl;
      };
      lines_above = refl;
      stands_at = refl;
    }

pub replaced-edit : IsEdit replaced false false 0 32
unfolding left_by drafted_by drafted pair replaced computing
replaced-edit =
    record {
      edit = record {
        above = [];
        line = bytes "a: addi r1, r0, 1";
        line' = bytes "a : jal r0, b # x";
        below = bytes "b: jal r0, a" ∷ [];
        stands = refl;
        stands' = refl;
        label = some (bytes "a");
        draft = record { row = row "addi" 0x08 I; registers = 1 ∷ 0 ∷ []; amount = some (exactly (pos 1)) };
        draft' = record { row = row "jal" 0x48 Jump; registers = 0 ∷ []; amount = some (to (bytes "b")) };
        holds = refl;
        holds' = refl;
      };
      lines_above = refl;
      stands_at = refl;
    }

pub retargeted-edit : IsEdit retargeted false false 1 36
unfolding left_by drafted_by drafted pair retargeted computing
retargeted-edit =
    record {
      edit = record {
        above = bytes "a: ecall" ∷ [];
        line = bytes "jal r0, a";
        line' = bytes "jal r0, b";
        below = bytes "b: ecall" ∷ [];
        stands = refl;
        stands' = refl;
        label = none;
        draft = record { row = row "jal" 0x48 Jump; registers = 0 ∷ []; amount = some (to (bytes "a")) };
        draft' = record { row = row "jal" 0x48 Jump; registers = 0 ∷ []; amount = some (to (bytes "b")) };
        holds = refl;
        holds' = refl;
      };
      lines_above = refl;
      stands_at = refl;
    }

pub counted-edit : IsEdit counted false false 1 36
unfolding left_by drafted_by drafted pair counted computing
counted-edit =
    record {
      edit = record {
        above = bytes "a: ecall" ∷ [];
        line = bytes "beq r1, r2, a";
        line' = bytes "beq r1, r2, -4";
        below = [];
        stands = refl;
        stands' = refl;
        label = none;
        draft = record { row = row "beq" 0x40 Branch; registers = 1 ∷ 2 ∷ []; amount = some (to (bytes "a")) };
        draft' = record { row = row "beq" 0x40 Branch; registers = 1 ∷ 2 ∷ []; amount = some (exactly (negsuc 3)) };
        holds = refl;
        holds' = refl;
      };
      lines_above = refl;
      stands_at = refl;
    }

pub commented-edit : IsEdit commented false false 0 32
unfolding left_by drafted_by drafted pair commented computing
commented-edit =
    record {
      edit = record {
        above = [];
        line = bytes "jal r0, a";
        line' = bytes "jal r0, a # same";
        below = bytes "ecall" ∷ bytes "a:" ∷ [];
        stands = refl;
        stands' = refl;
        label = none;
        draft = record { row = row "jal" 0x48 Jump; registers = 0 ∷ []; amount = some (to (bytes "a")) };
        draft' = record { row = row "jal" 0x48 Jump; registers = 0 ∷ []; amount = some (to (bytes "a")) };
        holds = refl;
        holds' = refl;
      };
      lines_above = refl;
      stands_at = refl;
    }

pub jumped-edit : IsEdit jumped false false 3 36
unfolding left_by drafted_by drafted pair jumped computing
jumped-edit =
    record {
      edit = record {
        above = bytes "# one" ∷ bytes ".config limb_bits 24" ∷ bytes "jal r0, b" ∷ [];
        line = bytes "addi r1, r0, 1";
        line' = bytes "addi r1, r0, 70";
        below = bytes "b: ecall" ∷ [];
        stands = refl;
        stands' = refl;
        label = none;
        draft = record { row = row "addi" 0x08 I; registers = 1 ∷ 0 ∷ []; amount = some (exactly (pos 1)) };
        draft' = record { row = row "addi" 0x08 I; registers = 1 ∷ 0 ∷ []; amount = some (exactly (pos 70)) };
        holds = refl;
        holds' = refl;
      };
      lines_above = refl;
      stands_at = refl;
    }

-- The first with a byte 10 at its end and the second as it is.
pub finished-edit : IsEdit finished true false 0 32
unfolding left_by drafted_by drafted pair finished computing
finished-edit =
    record {
      edit = record {
        above = [];
        line = bytes "ecall";
        line' = bytes "ebreak";
        below = [] ∷ [];
        stands = refl;
        stands' = refl;
        label = none;
        draft = record { row = row "ecall" 0x50 System; registers = []; amount = none };
        draft' = record { row = row "ebreak" 0x51 System; registers = []; amount = none };
        holds = refl;
        holds' = refl;
      };
      lines_above = refl;
      stands_at = refl;
    }

-- The others are none: an edit keeps the labels and the count of words.
pub unlabelled-none : Edit present unlabelled.source unlabelled.source' → ⊥
unfolding own_label labels_in pair unlabelled computing
unlabelled-none e = let n : ◌≡◌ {A = ℕ} 1 0 = ap length ((edit-alike e).labels 0) in omega arith

pub removed-none : Edit present removed.source removed.source' → ⊥
unfolding words_in pair removed computing
removed-none e = let n : ◌≡◌ {A = ℕ} 3 2 = (edit-alike e).words in omega arith

pub added-none : Edit present added.source added.source' → ⊥
unfolding words_in pair added computing
added-none e = let n : ◌≡◌ {A = ℕ} 2 3 = (edit-alike e).words in omega arith
