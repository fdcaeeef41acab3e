-- Rows of statements as code sees them.
use Rattle.std.proofs.Common.{◌≡◌, ℕ, List, ◌++◌, refl, sym, ap, ◌∙◌, append_assoc}
use Rattle.std.specs.Prelude.{Bool, true, false, ◌||◌}
use Rattle.sd_core.specs.declared.CoreExpr.{CoreExpr}
use Rattle.sd_core.specs.declared.CoreStmt.{CoreStmt, If, Row_of-CoreStmt, end_of-CoreStmt, more_of-CoreStmt, items-the_row-CoreStmt, items_hidden-the_row-CoreStmt-0}
use Rattle.sd_core.specs.declared.CoreStmt.TheBlock.{hidden-the_row-CoreStmt-0}
use Rattle.sd_runs.specs.Calls.{callees, row_callees, callees_of, has_fail, row_has_fail, any_fail}

callees_row : {n : _} (ks : Row_of-CoreStmt n) → row_callees ks ≡ callees_of (items-the_row-CoreStmt n ks)
callees_row end_of-CoreStmt = refl
callees_row (more_of-CoreStmt k ks) = ap (λ l. callees k ++ l) (callees_row ks)

callees_hidden : (ks : List CoreStmt) → row_callees (hidden-the_row-CoreStmt-0 ks) ≡ callees_of ks
callees_hidden ks = callees_row (hidden-the_row-CoreStmt-0 ks) ∙ ap callees_of (items_hidden-the_row-CoreStmt-0 ks)

-- a choice between two lists
pub if_callees : (e : CoreExpr) (x y : List CoreStmt) → callees (If e x y) ≡ callees_of x ++ callees_of y
if_callees e x y = λ i. callees_hidden x i ++ callees_hidden y i

fail_row : {n : _} (ks : Row_of-CoreStmt n) → row_has_fail ks ≡ any_fail (items-the_row-CoreStmt n ks)
fail_row end_of-CoreStmt = refl
fail_row (more_of-CoreStmt k ks) = ap (λ b. has_fail k || b) (fail_row ks)

fail_hidden : (ks : List CoreStmt) → row_has_fail (hidden-the_row-CoreStmt-0 ks) ≡ any_fail ks
fail_hidden ks = fail_row (hidden-the_row-CoreStmt-0 ks) ∙ ap any_fail (items_hidden-the_row-CoreStmt-0 ks)

pub if_fail : (e : CoreExpr) (x y : List CoreStmt) → has_fail (If e x y) ≡ (any_fail x || any_fail y)
if_fail e x y = λ i. fail_hidden x i || fail_hidden y i

-- ---- the answers of code

module _ (k : CoreStmt) (e : CoreExpr) (x y : List CoreStmt) (is : k ≡ If e x y) (us : List CoreStmt) (eu : us ≡ x) (a : Bool) (ea : a ≡ any_fail us) where
  pub then_fails : a ≡ true → a ≡ has_fail k
  then_fails t =
      let first : any_fail x ≡ true = sym (ea ∙ ap any_fail eu) ∙ t in
      t ∙ sym (ap has_fail is ∙ if_fail e x y ∙ ap (λ b. b || any_fail y) first)

  pub else_fails : (vs : List CoreStmt) → vs ≡ y → (b : Bool) → b ≡ any_fail vs → a ≡ false → b ≡ has_fail k
  else_fails vs ev b eb t =
      let first : any_fail x ≡ false = sym (ea ∙ ap any_fail eu) ∙ t in
      eb ∙ ap any_fail ev ∙ sym (ap has_fail is ∙ if_fail e x y ∙ ap (λ c. c || any_fail y) first)

pub both_put : (k : CoreStmt) (e : CoreExpr) (x y : List CoreStmt) → k ≡ If e x y → (us vs : List CoreStmt) → us ≡ x → vs ≡ y → (start first second : List ℕ) → first ≡ start ++ callees_of us → second ≡ first ++ callees_of vs → second ≡ start ++ callees k
both_put k e x y is us vs eu ev start first second f s =
    s ∙ (λ i. f i ++ callees_of (ev i)) ∙ (λ i. (start ++ callees_of (eu i)) ++ callees_of y) ∙ append_assoc start (callees_of x) (callees_of y)
    ∙ ap (λ l. start ++ l) (sym (ap callees is ∙ if_callees e x y))
