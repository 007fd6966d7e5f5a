-- The examples of numbers hold, by computation over the definitions.
use mathlib.Core.Path.{refl}
use mathlib.Core.Bool.{true, false}
use mathlib.Core.Option.{none, some}
use mathlib.Core.List.{[], ◌∷◌}
use Rattle.std.specs.Prelude.{pos, negsuc}
use Rattle.text_lexical.specs.Bytes.{bytes}
use Rattle.text.specs.Tokens.{identifier, register, number, hex, comma, colon}
use Rattle.instruction.specs.Table.{row, I, Shift}
use Rattle.instruction.specs.Operands.{exactly}
use Rattle.instruction.specs.Fits.{number_range}
use Rattle.guarantees.specs.Edits.{left_by}
use Rattle.guarantees.specs.Targets.{drafted_by, drafted}
use Rattle.guarantees.specs.Ranges.{bits_meant, comes_out_as}
use Rattle.guarantees.specs.RangeExamples.{OutOf}
use Rattle.guarantees.proofs.Computing.{computing}

-- A decimal at the end of its range.
pub threshold : OutOf "addi r1, r0, 65535" (number (pos 65535)) 32 0x7FFF8088 (pos 65535)
unfolding left_by drafted_by drafted bits_meant comes_out_as number_range computing
threshold =
    record {
      is_accepted = refl;
      stands = record {
        above = [];
        line = bytes "addi r1, r0, 65535";
        below = [];
        stands = refl;
        label = none;
        draft = record { row = row "addi" 0x08 I; registers = 1 ∷ 0 ∷ []; amount = some (exactly (pos 65535)) };
        holds = refl;
        left = identifier (bytes "addi") ∷ register (some 1) ∷ comma ∷ register (some 0) ∷ comma ∷ [];
        token = number (pos 65535);
        right = [];
        among = refl;
      };
      is_token = refl;
      stands_at = refl;
      comes_out = record { range = record { width = 17; signed = true }; is_range = refl; word = 0x7FFF8088; is_there = refl; is_read = refl };
      is_word = refl;
      is_number = refl;
    }

-- All bits of a field, after a label, a line and a word.
pub all_bits : OutOf "ecall\na: addi r1, r0, 0x1FFFF # -1" (hex 0x1FFFF) 36 0xFFFF8088 (negsuc 0)
unfolding left_by drafted_by drafted bits_meant comes_out_as number_range computing
all_bits =
    record {
      is_accepted = refl;
      stands = record {
        above = bytes "ecall" ∷ [];
        line = bytes "a: addi r1, r0, 0x1FFFF # -1";
        below = [];
        stands = refl;
        label = some (bytes "a");
        draft = record { row = row "addi" 0x08 I; registers = 1 ∷ 0 ∷ []; amount = some (exactly (pos 0x1FFFF)) };
        holds = refl;
        left = identifier (bytes "a") ∷ colon ∷ identifier (bytes "addi") ∷ register (some 1) ∷ comma ∷ register (some 0) ∷ comma ∷ [];
        token = hex 0x1FFFF;
        right = [];
        among = refl;
      };
      is_token = refl;
      stands_at = refl;
      comes_out = record { range = record { width = 17; signed = true }; is_range = refl; word = 0xFFFF8088; is_there = refl; is_read = refl };
      is_word = refl;
      is_number = refl;
    }

-- A shift's field has no sign.
pub shifted : OutOf "slli r1, r2, 255" (number (pos 255)) 32 0x007F909B (pos 255)
unfolding left_by drafted_by drafted bits_meant comes_out_as number_range computing
shifted =
    record {
      is_accepted = refl;
      stands = record {
        above = [];
        line = bytes "slli r1, r2, 255";
        below = [];
        stands = refl;
        label = none;
        draft = record { row = row "slli" 0x1B Shift; registers = 1 ∷ 2 ∷ []; amount = some (exactly (pos 255)) };
        holds = refl;
        left = identifier (bytes "slli") ∷ register (some 1) ∷ comma ∷ register (some 2) ∷ comma ∷ [];
        token = number (pos 255);
        right = [];
        among = refl;
      };
      is_token = refl;
      stands_at = refl;
      comes_out = record { range = record { width = 8; signed = false }; is_range = refl; word = 0x007F909B; is_there = refl; is_read = refl };
      is_word = refl;
      is_number = refl;
    }
