-- Bytes, byte classes and byte strings. A byte is a number below 256, a byte string a list of them. Quotations are document 01's.
use Rattle.std.specs.Prelude.{ℕ, ◌+◌, Bool, true, false, not, ◌&&◌, ◌||◌, List, [], ◌∷◌, length, leb, eqb}
use Prim.Native.Char.{code}
use Prim.Native.String.{String, [] as []ˢ, ◌∷◌ as ◌∷ˢ◌}
use Rattle.std.proofs.Math.Option.{Option, none, some}

-- A finished value, or a refusal by its number.
pub data Result (A : Type 0) : Type 0 where
  value : A → Result A
  refused : ℕ → Result A

-- The bytes of a quoted text.
unfoldable pub bytes : String → List ℕ
bytes []ˢ = []
bytes (c ∷ˢ s) = code c ∷ bytes s

-- ---- byte classes

unfoldable pub between : ℕ → ℕ → ℕ → Bool
between lo hi b = leb lo b && leb b hi

-- a to z, A to Z
unfoldable pub letter : ℕ → Bool
letter b = between 97 122 b || between 65 90 b

-- 0 to 9
unfoldable pub digit : ℕ → Bool
digit b = between 48 57 b

-- 0 to 9, a to f, A to F
unfoldable pub hex_digit : ℕ → Bool
hex_digit b = digit b || (between 97 102 b || between 65 70 b)

-- "0/1"
unfoldable pub binary_digit : ℕ → Bool
binary_digit b = between 48 49 b

-- "Inside, only space and tab are skipped."
unfoldable pub blank : ℕ → Bool
blank b = eqb b 9 || eqb b 32

-- "both ends lose bytes 9 to 13 and 32"
unfoldable pub edge : ℕ → Bool
edge b = between 9 13 b || eqb b 32

-- Within a line: "Lines end at byte 10".
unfoldable pub inside : ℕ → Bool
inside b = not (eqb b 10)

-- A byte that an end of a line loses, byte 10 aside, which ends the line.
unfoldable pub margin : ℕ → Bool
margin b = inside b && edge b

-- "`, : ( )`"
unfoldable pub mark : ℕ → Bool
mark b = eqb b 44 || (eqb b 58 || (eqb b 40 || eqb b 41))

-- "letter or `_`", an Identifier's first byte
unfoldable pub name_start : ℕ → Bool
name_start b = letter b || eqb b 95

-- "letters, digits, `_`", its later ones
unfoldable pub name_part : ℕ → Bool
name_part b = name_start b || digit b

-- A byte that is not above 127: "2 a byte above 127".
unfoldable pub ascii : ℕ → Bool
ascii b = leb b 127

-- A letter in lower case, any other byte as it is.
unfoldable pub lower : ℕ → ℕ
lower b = elim (between 65 90 b) [ true ↦ b + 32 | false ↦ b ]

-- ---- byte strings

-- Every byte is in the class.
unfoldable pub every : (ℕ → Bool) → List ℕ → Bool
every p [] = true
every p (b ∷ s) = elim (p b) [ true ↦ every p s | false ↦ false ]

-- There is a byte, and every byte is in the class.
unfoldable pub one_or_more : (ℕ → Bool) → List ℕ → Bool
one_or_more p [] = false
one_or_more p (b ∷ s) = every p (b ∷ s)

-- Two byte strings are the same.
unfoldable pub same : List ℕ → List ℕ → Bool
same [] [] = true
same [] (y ∷ t) = false
same (x ∷ s) [] = false
same (x ∷ s) (y ∷ t) = elim (eqb x y) [ true ↦ same s t | false ↦ false ]

-- The bytes before the first one outside the class.
unfoldable pub before : (ℕ → Bool) → List ℕ → List ℕ
before p [] = []
before p (b ∷ s) = elim (p b) [ true ↦ b ∷ before p s | false ↦ [] ]

-- How many they are.
unfoldable pub run : (ℕ → Bool) → List ℕ → ℕ
run p s = length (before p s)

-- The bytes from the first one outside the class on.
unfoldable pub after : (ℕ → Bool) → List ℕ → List ℕ
after p [] = []
after p (b ∷ s) = elim (p b) [ true ↦ after p s | false ↦ b ∷ s ]

-- ---- searching a list

-- The first entry that passes a test.
unfoldable pub find : {A : Type 0} → (A → Bool) → List A → Option A
find p [] = none
find p (a ∷ l) = elim (p a) [ true ↦ some a | false ↦ find p l ]

unfoldable pub is_some : {A : Type 0} → Option A → Bool
is_some none = false
is_some (some a) = true

-- Every entry passes a test.
unfoldable pub each : {A : Type 0} → (A → Bool) → List A → Bool
each p [] = true
each p (a ∷ l) = elim (p a) [ true ↦ each p l | false ↦ false ]
