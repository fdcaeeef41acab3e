-- Fields of a line, and what it means to read something by its spelling.
use Rattle.std.specs.Prelude.{◌≡◌, ℕ, ◌<◌, ◌^◌, ◌==◌, Bool, false, List, [], ◌∷◌, ◌++◌, length, slice_index, Option}
use Rattle.std.specs.Prelude.{Some, None, IfSome, if◌then◌else◌}
use Rattle.std.specs.List.{list_any, AllByRecursion}
use Rattle.std.specs.Fmt.{decimal}

-- The result is the thing that the text spells, if it spells one that fits.
abbrev pub IsReadAs : {X T : Type 0} → (X → T) → (X → Type 0) → T → Option X → Type 0
IsReadAs {X} {T} spelling Fits text result =
    IfSome result (λ x. Fits x × (text ≡ spelling x)) × ((x : X) → Fits x → text ≡ spelling x → result ≡ Some x)

-- what follows the front
abbrev pub after_front : List ℕ → List ℕ → Option (List ℕ)
after_front [] text = Some text
after_front (c ∷ front) [] = None
after_front (c ∷ front) (b ∷ text) = if c == b then after_front front text else None

-- the first of several characters is a zero
abbrev pub has_leading_zero : List ℕ → Bool
has_leading_zero (c ∷ d ∷ text) = c == 48
has_leading_zero _ = false

abbrev pub has_byte : ℕ → List ℕ → Bool
has_byte byte text = list_any (λ b. b == byte) text

-- 32 bytes
pub record IsDigest (digest : List ℕ) : Type 0 where
  pub size : length digest ≡ 32
  pub bytes : (i : ℕ) → slice_index digest i < 256

-- ---- numbers

abbrev pub AreSmall : List ℕ → Type 0
AreSmall numbers = AllByRecursion (λ n. n < 2 ^ 32) numbers

-- at least one number, and each is less than 2^64
abbrev pub AreNumbers : List ℕ → Type 0
AreNumbers [] = ⊥
AreNumbers (n ∷ ns) = (n < 2 ^ 64) × AllByRecursion (λ m. m < 2 ^ 64) ns

-- numbers that are parted by one space
abbrev pub numbers_text : List ℕ → List ℕ
numbers_text [] = []
numbers_text (n ∷ []) = decimal n
numbers_text (n ∷ m ∷ ns) = decimal n ++ 32 ∷ numbers_text (m ∷ ns)
