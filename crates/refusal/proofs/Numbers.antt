-- A refusal is the one with its number.
use Rattle.std.specs.Prelude.{◌≡◌, refl}
use Rattle.refusal.specs.Refusals.{number_of, refusal_at}
use Rattle.refusal.specs.declared.refusal.Refusal.{Refusal}
use Rattle.refusal.specs.declared.refusal.Refusal.TheVariants.{SourceTooLong, NotAscii, BadToken, DuplicateLabel, TableFull, ConfigTokens, KeyExpected, NumberExpected, UnknownKey, LimbBitsRange, LimbBitsOdd, DataLimbsRange, AddrLimbsRange, MnemonicExpected, UnknownMnemonic, OperandCount, RegisterExpected, NoSuchRegister, CommaExpected, OpeningExpected, ClosingExpected, TooManyWords, ImageTooShort, HeaderCut, WrongMagic, WrongVersion, CodeSize, ImageLength, UnusualHeader, UnknownOpcode, UnusedBit, TextTooShort, NoSuchLabel, LabelTooFar, NumberOutOfRange}

pub number-back : (r : Refusal) → refusal_at (number_of r) ≡ r
unfolding Rattle.refusal.specs.Refusals.refusals
number-back SourceTooLong = refl
number-back NotAscii = refl
number-back BadToken = refl
number-back DuplicateLabel = refl
number-back TableFull = refl
number-back ConfigTokens = refl
number-back KeyExpected = refl
number-back NumberExpected = refl
number-back UnknownKey = refl
number-back LimbBitsRange = refl
number-back LimbBitsOdd = refl
number-back DataLimbsRange = refl
number-back AddrLimbsRange = refl
number-back MnemonicExpected = refl
number-back UnknownMnemonic = refl
number-back OperandCount = refl
number-back RegisterExpected = refl
number-back NoSuchRegister = refl
number-back CommaExpected = refl
number-back OpeningExpected = refl
number-back ClosingExpected = refl
number-back TooManyWords = refl
number-back ImageTooShort = refl
number-back HeaderCut = refl
number-back WrongMagic = refl
number-back WrongVersion = refl
number-back CodeSize = refl
number-back ImageLength = refl
number-back UnusualHeader = refl
number-back UnknownOpcode = refl
number-back UnusedBit = refl
number-back TextTooShort = refl
number-back NoSuchLabel = refl
number-back LabelTooFar = refl
number-back NumberOutOfRange = refl
