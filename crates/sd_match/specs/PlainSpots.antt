-- What is compared of a pair where its runs begin and where they end, in plain words.
use Rattle.std.specs.Prelude.{◌≡◌, ◌≢◌, ◌<◌, ◌⊎◌, ◌↔◌, ℕ, ◌+◌, List, [], ◌∷◌, ◌++◌, length, Some, slice_get, Contains}
use Rattle.std.specs.List.{AllByRecursion}
use Rattle.sd_base.specs.declared.Sort.{Sort}
use Rattle.sd_base.specs.declared.Sort.TheVariants.{Bool as BoolSort}
use Rattle.sd_base.specs.declared.Var.{Var}
use Rattle.sd_core.specs.declared.Spot.{Spot}
use Rattle.sd_core.specs.declared.Spot.TheVariants.{Slot, Global}
use Rattle.sd_core.specs.declared.CoreProc.{CoreProc}
use Rattle.sd_core.specs.declared.CoreProgram.{CoreProgram}
use Rattle.sd_core.specs.Formed.{copies_of, left, IsLoop, WellFormed}
use Rattle.sd_match.specs.declared.pair.SpotPair.{SpotPair}
use Rattle.sd_match.specs.declared.pair.PairState.TheVariants.{Signature}
use Rattle.sd_match.specs.declared.pair.Pair.{Pair}
use Rattle.sd_match.specs.Pairs.{pairs_of}
use Rattle.sd_match.specs.PlainPairs.{IsInText, IsLoopOf}

-- ---- variables

-- Two places are compared, as values of this type.
pub record IsOf (old new : Spot) (sort : Sort) (s : SpotPair) : Type 0 where
  pub is_old : s.old ≡ old
  pub is_new : s.new ≡ new
  pub is_sort : s.sort ≡ sort

-- two variables at one position of their lists, which stand in slots from i and from j on
pub record IsAtOnePosition (i j : ℕ) (xs ys : List Var) (s : SpotPair) : Type 0 where
  pub place : ℕ
  pub x : Var
  pub y : Var
  pub old : slice_get xs place ≡ Some x
  pub new : slice_get ys place ≡ Some y
  pub is : IsOf (Slot (i + place)) (Slot (j + place)) x.sort s

-- The variable stands here first.
abbrev pub IsFirstPlace : List Var → Var → ℕ → Type 0
IsFirstPlace ys x n = (slice_get ys n ≡ Some x) × ((k : ℕ) → k < n → slice_get ys k ≢ Some x)

-- a variable, and the first one of its name and type
pub record IsOfOneName (i j : ℕ) (xs ys : List Var) (s : SpotPair) : Type 0 where
  pub old_place : ℕ
  pub new_place : ℕ
  pub x : Var
  pub old : slice_get xs old_place ≡ Some x
  pub new : IsFirstPlace ys x new_place
  pub is : IsOf (Slot (i + old_place)) (Slot (j + new_place)) x.sort s

-- Both programs declare this global, with one name and type.
pub record IsShared (P Q : CoreProgram) (i j : ℕ) (s : SpotPair) : Type 0 where
  pub x : Var
  pub old : slice_get P.globals i ≡ Some x
  pub new : slice_get Q.globals j ≡ Some x
  pub is : IsOf (Global i) (Global j) x.sort s

abbrev pub IsSharedGlobal : CoreProgram → CoreProgram → SpotPair → Type 0
IsSharedGlobal P Q s = (i : ℕ) × (j : ℕ) × IsShared P Q i j s

-- a shared global that one of the two procedures may modify
abbrev pub IsModified : CoreProgram → CoreProgram → CoreProc → CoreProc → SpotPair → Type 0
IsModified P Q p q s = (i : ℕ) × (j : ℕ) × IsShared P Q i j s × (Contains p.modifies i ⊎ Contains q.modifies j)

-- ---- procedures of the texts

-- The parameters are compared by position.
pub record ArePlainInText (P Q : CoreProgram) (p q : CoreProc) (pair : Pair) : Type 0 where
  pub inputs : (s : SpotPair) → Contains pair.inputs s ↔ (IsAtOnePosition 0 0 p.ins q.ins s ⊎ IsSharedGlobal P Q s)
  pub outputs : (s : SpotPair) → Contains pair.outputs s
      ↔ (IsAtOnePosition (length p.ins) (length q.ins) p.outs q.outs s ⊎ IsModified P Q p q s)

-- ---- loops

-- the parameters of the procedure that a loop stands in: the first of its in-parameters
abbrev pub parameters : {P : CoreProgram} {n i k : ℕ} {p : CoreProc} → IsLoop P n i k p → List Var
parameters l = l.root.ins ++ l.root.outs

-- the declared locals and the copies of globals: the others
abbrev pub carried : {P : CoreProgram} {n i k : ℕ} {p : CoreProc} → IsLoop P n i k p → List Var
carried {P} l = l.declared ++ copies_of P.globals l.root.modifies

-- its out-parameters, but for the one that says whether it left the procedure
abbrev pub results : {P : CoreProgram} {n i k : ℕ} {p : CoreProc} → IsLoop P n i k p → List Var
results l = l.root.outs ++ l.declared

-- Both loops say whether they left.
pub record IsLeft {P Q : CoreProgram} {m n i j k k' : ℕ} {p q : CoreProc} (old : IsLoop P m i k p)
    (new : IsLoop Q n j k' q) (s : SpotPair) : Type 0 where
  pub old_has : p.outs ≡ results old ++ left
  pub new_has : q.outs ≡ results new ++ left
  pub is : IsOf (Slot (length p.ins + length (results old))) (Slot (length q.ins + length (results new))) BoolSort s

-- Parameters of the procedures that they stand in are compared by position, the others by name.
pub record ArePlainInLoops {P Q : CoreProgram} {m n i j k k' : ℕ} {p q : CoreProc} (old : IsLoop P m i k p)
    (new : IsLoop Q n j k' q) (pair : Pair) : Type 0 where
  pub inputs : (s : SpotPair) → Contains pair.inputs s
      ↔ (IsAtOnePosition 0 0 (parameters old) (parameters new) s
      ⊎ (IsOfOneName (length (parameters old)) (length (parameters new)) (carried old) (carried new) s
      ⊎ IsSharedGlobal P Q s))
  pub outputs : (s : SpotPair) → Contains pair.outputs s
      ↔ (IsAtOnePosition (length p.ins) (length q.ins) old.root.outs new.root.outs s
      ⊎ (IsOfOneName (length p.ins + length old.root.outs) (length q.ins + length new.root.outs)
      old.declared new.declared s
      ⊎ (IsLeft old new s ⊎ IsModified P Q p q s)))

-- ---- their order

-- Slots come before globals.
abbrev pub ComesBefore : Spot → Spot → Type 0
ComesBefore (Slot i) (Slot j) = i < j
ComesBefore (Slot i) (Global j) = Unit {0}
ComesBefore (Global i) (Slot j) = ⊥
ComesBefore (Global i) (Global j) = i < j

-- Each comes before all later ones in the old program.
abbrev pub Ascend : List SpotPair → Type 0
Ascend [] = Unit {0}
Ascend (s ∷ ss) = AllByRecursion (λ t. ComesBefore s.old t.old) ss × Ascend ss

-- ---- pairs

-- A pair whose types differ has no inputs and no outputs.
pub record ArePlainSpots (P Q : CoreProgram) (pair : Pair) : Type 0 where
  pub refused : pair.state ≡ Signature → (pair.inputs ≡ []) × (pair.outputs ≡ [])
  pub in_text : pair.state ≢ Signature → (p q : CoreProc) → IsInText P pair.old p → IsInText Q pair.new q
      → ArePlainInText P Q p q pair
  pub in_loops : pair.state ≢ Signature → (i j k k' : ℕ) (p q : CoreProc)
      → IsLoopOf P pair.old p i k → IsLoopOf Q pair.new q j k'
      → (old : IsLoop P pair.old i k p) (new : IsLoop Q pair.new j k' q)
      → ArePlainInLoops old new pair
  pub inputs_ascend : Ascend pair.inputs
  pub outputs_ascend : Ascend pair.outputs

-- The inputs and outputs of the pairs of two well formed programs are these.
abbrev pub SpotsArePlain : Type 0
SpotsArePlain =
    (P Q : CoreProgram) → WellFormed P → WellFormed Q
    → (pair : Pair) → Contains (pairs_of P Q) pair → ArePlainSpots P Q pair
