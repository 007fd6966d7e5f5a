-- The header and the image of a program. Quotations are document 01's.
use Rattle.std.specs.Prelude.{ℕ, ◌+◌, ◌*◌, ◌^◌, length, take, drop}
use mathlib.Core.List.{List, ◌∷◌, ◌++◌, flat_map}
use Rattle.text_lexical.specs.Numbers.{little, unlittle}
use Rattle.image.specs.Settings.{Settings, settings}

-- The fields of a header. (`ProgramHeader`)
pub record Header : Type 0 where
  pub magic : ℕ
  pub version : ℕ
  pub setup : Settings
  pub flags : ℕ
  pub entry : ℕ
  pub code_size : ℕ
  pub data_size : ℕ
  pub bss_size : ℕ
  pub stack_size : ℕ

-- "magic 0x52494B5A (bytes 5A 4B 49 52"
unfoldable pub magic : ℕ
magic = 0x52494B5A

unfoldable pub version : ℕ
version = 0x00030004

-- "entry 0x1000", and where addresses begin
unfoldable pub entry : ℕ
entry = 0x1000

-- "stack 2^20"
unfoldable pub stack_size : ℕ
stack_size = 2 ^ 20

-- "Header, little-endian": magic, version, "the bytes limb_bits, data_limbs, addr_limbs and flags", "then five 32-bit fields":
-- entry, code size, data size, bss size, stack size.
unfoldable pub header_bytes : Header → List ℕ
header_bytes h =
    little 4 h.magic ++ (little 4 h.version
    ++ (h.setup.limb_bits ∷ h.setup.data_limbs ∷ h.setup.addr_limbs ∷ h.flags
    ∷ (little 4 h.entry ++ (little 4 h.code_size ++ (little 4 h.data_size ++ (little 4 h.bss_size ++ little 4 h.stack_size))))))

unfoldable pub header_size : ℕ
header_size = 32

-- The header that assembling writes: "flags 0", "entry 0x1000", "bss 0, stack 2^20".
unfoldable pub header_for : Settings → ℕ → ℕ → Header
header_for s code_size data_size =
    record {
      magic = magic;
      version = version;
      setup = s;
      flags = 0;
      entry = entry;
      code_size = code_size;
      data_size = data_size;
      bss_size = 0;
      stack_size = stack_size;
    }

-- The image of settings, words and data: the header, the words, the data. (`Program::to_bytes`; the data is empty: "data 0".)
unfoldable pub image : Settings → List ℕ → List ℕ → List ℕ
image s words bs = header_bytes (header_for s (4 * length words) (length bs)) ++ (flat_map (little 4) words ++ bs)

-- "The image fills the first 32 + 4 times words bytes"
unfoldable pub image_length : ℕ → ℕ
image_length words = header_size + 4 * words

-- ---- the header read from bytes

-- The number of so many bytes from a place on.
unfoldable pub number_at : ℕ → ℕ → List ℕ → ℕ
number_at at size b = unlittle (take size (drop at b))

unfoldable pub header_of : List ℕ → Header
header_of b =
    record {
      magic = number_at 0 4 b;
      version = number_at 4 4 b;
      setup = settings (number_at 8 1 b) (number_at 9 1 b) (number_at 10 1 b);
      flags = number_at 11 1 b;
      entry = number_at 12 4 b;
      code_size = number_at 16 4 b;
      data_size = number_at 20 4 b;
      bss_size = number_at 24 4 b;
      stack_size = number_at 28 4 b;
    }

-- The code part: so many bytes after the header as its code size says.
unfoldable pub code_of : List ℕ → List ℕ
code_of b = take (header_of b).code_size (drop header_size b)

-- The data part: the bytes after the code.
unfoldable pub data_of : List ℕ → List ℕ
data_of b = drop (header_size + (header_of b).code_size) b
