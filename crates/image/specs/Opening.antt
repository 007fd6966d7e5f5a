-- Opening: "takes image bytes and answers the settings, the other header fields and the code and data parts". Quotations are
-- document 01's.
use Rattle.std.specs.Prelude.{ℕ, ◌+◌, ◌%◌, true, false, List, length, ltb, eqb}
use Rattle.std.proofs.Math.Option.{Option, none, some}
use Rattle.text_lexical.specs.Bytes.{Result, value, refused}
use Rattle.image.specs.Settings.{settings_fault}
use Rattle.image.specs.Program.{Header, magic, version, header_size, header_of, code_of, data_of}

-- The parts, and where the code ends, which begins after the header; the data fill the rest.
pub record Opened : Type 0 where
  pub header : Header
  pub code_end : ℕ
  pub code : List ℕ
  pub initialized : List ℕ

-- What a header alone is refused for: "25 wrong magic; 26 wrong version; 10 to 13 on the settings". (`ProgramHeader::validate`)
unfoldable pub header_fault : Header → Option ℕ
header_fault h =
    elim (eqb h.magic magic) [
      | false ↦ some 25
      | true ↦ elim (eqb h.version version) [ false ↦ some 26 | true ↦ settings_fault h.setup ]
    ]

-- "In order: 24 under 32 bytes"; those of the header; "27 code size no multiple of 4; 28 length differs from 32 + code size + data
-- size, added as whole numbers."
unfoldable pub opening_fault : List ℕ → Option ℕ
opening_fault b =
    elim (ltb (length b) header_size) [
      | true ↦ some 24
      | false ↦ elim (header_fault (header_of b)) [
        | some n ↦ some n
        | none ↦ elim (eqb ((header_of b).code_size % 4) 0) [
          | false ↦ some 27
          | true ↦ elim (eqb (length b) (header_size + (header_of b).code_size + (header_of b).data_size)) [ false ↦ some 28 | true ↦ none ]
        ]
      ]
    ]

unfoldable pub opening : List ℕ → Result Opened
opening b =
    elim (opening_fault b) [
      | some n ↦ refused n
      | none ↦ value (record { header = header_of b; code_end = header_size + (header_of b).code_size; code = code_of b; initialized = data_of b })
    ]
