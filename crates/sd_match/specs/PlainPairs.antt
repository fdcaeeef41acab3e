-- Which procedures of two programs are compared, and which pairs are refused, in plain words.
use Rattle.std.specs.Prelude.{◌≡◌, ◌<◌, ◌≤◌, ◌⊎◌, ◌↔◌, ℕ, List, Some, None, slice_get, Contains}
use Rattle.sd_base.specs.Value.{Text}
use Rattle.sd_core.specs.declared.CoreProc.{CoreProc}
use Rattle.sd_core.specs.declared.CoreProgram.{CoreProgram}
use Rattle.sd_core.specs.Formed.{sorts_of, WellFormed}
use Rattle.sd_runs.specs.Calls.{callees_of}
use Rattle.sd_match.specs.declared.pair.PairState.{PairState}
use Rattle.sd_match.specs.declared.pair.PairState.TheVariants.{Open, Signature, UnmatchedRecursion}
use Rattle.sd_match.specs.declared.pair.Pair.{Pair}
use Rattle.sd_match.specs.Pairs.{pairs_of}

-- ---- partners

-- The procedure at place i is one of the text.
abbrev pub IsInText : CoreProgram → ℕ → CoreProc → Type 0
IsInText P i p = (slice_get P.procs i ≡ Some p) × (p.parent ≡ None)

-- The procedure at place n is that of loop k of the one at place i.
abbrev pub IsLoopOf : CoreProgram → ℕ → CoreProc → ℕ → ℕ → Type 0
IsLoopOf P n loop i k = (slice_get P.procs n ≡ Some loop) × (loop.parent ≡ Some (i, k))

-- The in-parameters have the same types by position, and so have the out-parameters.
abbrev pub HaveSameTypes : CoreProc → CoreProc → Type 0
HaveSameTypes p q = (sorts_of p.ins ≡ sorts_of q.ins) × (sorts_of p.outs ≡ sorts_of q.outs)

-- two procedures of the texts of one name
pub record AreNamesakes (P Q : CoreProgram) (i j : ℕ) (p q : CoreProc) : Type 0 where
  pub old : IsInText P i p
  pub new : IsInText Q j q
  pub name : p.name ≡ q.name

-- two loops of one number, in procedures of one name and of the same types
pub record AreSameLoops (P Q : CoreProgram) (m n : ℕ) : Type 0 where
  pub i : ℕ
  pub j : ℕ
  pub p : CoreProc
  pub q : CoreProc
  pub namesakes : AreNamesakes P Q i j p q
  pub types : HaveSameTypes p q
  pub number : ℕ
  pub old_loop : CoreProc
  pub new_loop : CoreProc
  pub old : IsLoopOf P m old_loop i number
  pub new : IsLoopOf Q n new_loop j number

abbrev pub ArePartners : CoreProgram → CoreProgram → ℕ → ℕ → Type 0
ArePartners P Q m n = ((p q : CoreProc) × AreNamesakes P Q m n p q) ⊎ AreSameLoops P Q m n

-- ---- calls of procedures without partners

abbrev pub HasNoPartner : CoreProgram → CoreProgram → ℕ → Type 0
HasNoPartner P Q c = (d : ℕ) → ArePartners P Q c d → ⊥

-- The procedure at place n is the one of the text at place i, or one of its loops.
abbrev pub BelongsTo : CoreProgram → ℕ → ℕ → CoreProc → Type 0
BelongsTo P i n p = (slice_get P.procs n ≡ Some p) × ((n ≡ i) ⊎ ((k : ℕ) × (p.parent ≡ Some (i, k))))

-- The body of procedure i of the text, or that of a loop of it, calls procedure c, which has no partner.
pub record IsUnmatchedCall (P Q : CoreProgram) (i c : ℕ) : Type 0 where
  pub place : ℕ
  pub caller : CoreProc
  pub belongs : BelongsTo P i place caller
  pub calls : Contains (callees_of caller.body) c
  pub unmatched : HasNoPartner P Q c

abbrev pub CallsNoUnmatched : CoreProgram → CoreProgram → ℕ → Type 0
CallsNoUnmatched P Q i = (c : ℕ) → IsUnmatchedCall P Q i c → ⊥

-- the first of them in the order of the core program
abbrev pub IsFirstUnmatched : CoreProgram → CoreProgram → ℕ → ℕ → Type 0
IsFirstUnmatched P Q i c = IsUnmatchedCall P Q i c × ((d : ℕ) → IsUnmatchedCall P Q i d → c ≤ d)

-- its name
pub record IsFirstUnmatchedName (P Q : CoreProgram) (i : ℕ) (x : Text) : Type 0 where
  pub place : ℕ
  pub callee : CoreProc
  pub first : IsFirstUnmatched P Q i place
  pub found : slice_get P.procs place ≡ Some callee
  pub name : callee.name ≡ x

-- The name that is told: one of the old program comes first.
abbrev pub IsRefusedFor : CoreProgram → CoreProgram → ℕ → ℕ → Text → Type 0
IsRefusedFor P Q i j x =
    IsFirstUnmatchedName P Q i x ⊎ (CallsNoUnmatched P Q i × IsFirstUnmatchedName Q P j x)

-- ---- states

-- the state of procedures p and q of the texts, at places i and j
pub record HasState (P Q : CoreProgram) (i j : ℕ) (p q : CoreProc) (state : PairState) : Type 0 where
  pub signature : (state ≡ Signature) ↔ (HaveSameTypes p q → ⊥)
  pub unmatched : (x : Text) → (state ≡ UnmatchedRecursion x) ↔ (HaveSameTypes p q × IsRefusedFor P Q i j x)
  pub is_open : (state ≡ Open) ↔ (HaveSameTypes p q × (CallsNoUnmatched P Q i × CallsNoUnmatched Q P j))

-- A pair has the state of the procedures of the texts that it belongs to.
pub record HasItsState (P Q : CoreProgram) (pair : Pair) : Type 0 where
  pub i : ℕ
  pub j : ℕ
  pub p : CoreProc
  pub q : CoreProc
  pub namesakes : AreNamesakes P Q i j p q
  pub old : CoreProc
  pub new : CoreProc
  pub old_belongs : BelongsTo P i pair.old old
  pub new_belongs : BelongsTo Q j pair.new new
  pub state : HasState P Q i j p q pair.state

-- ---- pairs

-- Just the partners are paired, in the order of the old program, and each pair has its state.
pub record ArePlainPairs (P Q : CoreProgram) (pairs : List Pair) : Type 0 where
  pub partners : (i j : ℕ)
      → ArePartners P Q i j ↔ ((pair : Pair) × Contains pairs pair × (pair.old ≡ i) × (pair.new ≡ j))
  pub ascending : (a b : ℕ) (x y : Pair) → a < b → slice_get pairs a ≡ Some x → slice_get pairs b ≡ Some y
      → x.old < y.old
  pub states : (pair : Pair) → Contains pairs pair → HasItsState P Q pair

-- The pairs of two well formed programs are these.
abbrev pub PairsArePlain : Type 0
PairsArePlain = (P Q : CoreProgram) → WellFormed P → WellFormed Q → ArePlainPairs P Q (pairs_of P Q)
