-- The numbers of the refusals: document 01 counts them from 1 to 32, and document 02 on from there.
use Rattle.std.specs.Prelude.{ℕ, List, [], ◌∷◌, get_or, ◌-◌, Ok, Err}
use Rattle.std.specs.Prelude.{Result as Answer}
use Rattle.std.proofs.Math.Option.{Option, none, some}
use Rattle.text_lexical.specs.Bytes.{Result, value, refused}
use Rattle.refusal.specs.declared.refusal.Refusal.{Refusal}
use Rattle.refusal.specs.declared.refusal.Refusal.TheVariants.{SourceTooLong, NotAscii, BadToken, DuplicateLabel, TableFull, ConfigTokens, KeyExpected, NumberExpected, UnknownKey, LimbBitsRange, LimbBitsOdd, DataLimbsRange, AddrLimbsRange, MnemonicExpected, UnknownMnemonic, OperandCount, RegisterExpected, NoSuchRegister, CommaExpected, OpeningExpected, ClosingExpected, TooManyWords, ImageTooShort, HeaderCut, WrongMagic, WrongVersion, CodeSize, ImageLength, UnusualHeader, UnknownOpcode, UnusedBit, TextTooShort, NoSuchLabel, LabelTooFar, NumberOutOfRange}

abbrev pub number_of : Refusal → ℕ
number_of SourceTooLong = 1
number_of NotAscii = 2
number_of BadToken = 3
number_of DuplicateLabel = 4
number_of TableFull = 5
number_of ConfigTokens = 6
number_of KeyExpected = 7
number_of NumberExpected = 8
number_of UnknownKey = 9
number_of LimbBitsRange = 10
number_of LimbBitsOdd = 11
number_of DataLimbsRange = 12
number_of AddrLimbsRange = 13
number_of MnemonicExpected = 14
number_of UnknownMnemonic = 15
number_of OperandCount = 16
number_of RegisterExpected = 17
number_of NoSuchRegister = 18
number_of CommaExpected = 19
number_of OpeningExpected = 20
number_of ClosingExpected = 21
number_of TooManyWords = 22
number_of ImageTooShort = 23
number_of HeaderCut = 24
number_of WrongMagic = 25
number_of WrongVersion = 26
number_of CodeSize = 27
number_of ImageLength = 28
number_of UnusualHeader = 29
number_of UnknownOpcode = 30
number_of UnusedBit = 31
number_of TextTooShort = 32
number_of NoSuchLabel = 33
number_of LabelTooFar = 34
number_of NumberOutOfRange = 35

-- The refusals in the order of their numbers, and the one with a number.
unfoldable pub refusals : List Refusal
refusals =
    SourceTooLong ∷ NotAscii ∷ BadToken ∷ DuplicateLabel ∷ TableFull
    ∷ ConfigTokens ∷ KeyExpected ∷ NumberExpected ∷ UnknownKey ∷ LimbBitsRange
    ∷ LimbBitsOdd ∷ DataLimbsRange ∷ AddrLimbsRange ∷ MnemonicExpected ∷ UnknownMnemonic
    ∷ OperandCount ∷ RegisterExpected ∷ NoSuchRegister ∷ CommaExpected ∷ OpeningExpected
    ∷ ClosingExpected ∷ TooManyWords ∷ ImageTooShort ∷ HeaderCut ∷ WrongMagic
    ∷ WrongVersion ∷ CodeSize ∷ ImageLength ∷ UnusualHeader ∷ UnknownOpcode
    ∷ UnusedBit ∷ TextTooShort ∷ NoSuchLabel ∷ LabelTooFar ∷ NumberOutOfRange ∷ []

abbrev pub refusal_at : ℕ → Refusal
refusal_at n = get_or refusals (n - 1) NumberOutOfRange

-- An answer that may be a refusal, by what its value means.
abbrev pub answered : {A B : Type 0} → (A → B) → Answer A Refusal → Result B
answered meant (Ok a) = value (meant a)
answered meant (Err r) = refused (number_of r)

-- The number of the refusal, if it is one.
abbrev pub fault_of : {A : Type 0} → Answer A Refusal → Option ℕ
fault_of (Ok a) = none
fault_of (Err r) = some (number_of r)
