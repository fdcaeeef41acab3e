-- Which procedures a body calls, and whether it can fail by itself.
use Rattle.std.specs.Prelude.{ℕ, Bool, true, false, ◌||◌, List, [], ◌∷◌, ◌++◌}
use Rattle.sd_core.specs.declared.CoreStmt.{CoreStmt, If', Call, Fail, Row_of-CoreStmt, end_of-CoreStmt, more_of-CoreStmt}

-- the callees of a statement, in text order, one for each call
abbrev mutual
  pub callees : CoreStmt → List ℕ
  callees (If' c n a m b) = row_callees a ++ row_callees b
  callees (Call ps q es) = q ∷ []
  callees _ = []

  pub row_callees : {n : _} → Row_of-CoreStmt n → List ℕ
  row_callees end_of-CoreStmt = []
  row_callees (more_of-CoreStmt k ks) = callees k ++ row_callees ks

abbrev pub callees_of : List CoreStmt → List ℕ
callees_of [] = []
callees_of (k ∷ ks) = callees k ++ callees_of ks

-- whether a failure stands in a statement
abbrev mutual
  pub has_fail : CoreStmt → Bool
  has_fail (If' c n a m b) = row_has_fail a || row_has_fail b
  has_fail Fail = true
  has_fail _ = false

  pub row_has_fail : {n : _} → Row_of-CoreStmt n → Bool
  row_has_fail end_of-CoreStmt = false
  row_has_fail (more_of-CoreStmt k ks) = has_fail k || row_has_fail ks

abbrev pub any_fail : List CoreStmt → Bool
any_fail [] = false
any_fail (k ∷ ks) = has_fail k || any_fail ks
