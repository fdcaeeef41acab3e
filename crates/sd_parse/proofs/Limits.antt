-- What is spelled under a limit for attributes is spelled under a higher one.
use Rattle.std.proofs.Common.{ℕ, ◌≤◌, List, arith}
use Rattle.std.specs.Prelude.{Bool}
use Rattle.sd_base.specs.declared.Place.{Place}
use Rattle.sd_base.specs.declared.Var.{Var}
use Rattle.sd_ast.specs.declared.Expr.{Expr}
use Rattle.sd_ast.specs.declared.Invariant.{Invariant}
use Rattle.sd_ast.specs.declared.Stmt.{Stmt}
use Rattle.sd_ast.specs.declared.Body.{Body}
use Rattle.sd_ast.specs.declared.Spec.{Spec}
use Rattle.sd_ast.specs.declared.Decl.{Decl}
use Rattle.sd_parse.specs.declared.class.TokenClass.{TokenClass}
use Rattle.sd_parse.specs.Grammar.{Tokens}
use Rattle.sd_parse.specs.Rows as w
use Rattle.sd_parse.specs.Rows.{Row, Joined}
use Rattle.sd_parse.specs.Clauses as c
use Rattle.sd_parse.specs.Clauses.{Attributes, Claim, Clause}
use Rattle.sd_parse.specs.Statements as st
use Rattle.sd_parse.specs.Statements.{InvariantLine, Statement, Otherwise, Block, Statements}
use Rattle.sd_parse.specs.Programs as pr
use Rattle.sd_parse.specs.Programs.{VarLine, SpecText, BodyText, Declaration}

row_map : {A : Type 0} {F V : Tokens → A → ℕ → Type 0} → ((u : Tokens) (x : A) (h : ℕ) → F u x h → V u x h) → {u : Tokens} {xs : List A} {h : ℕ} → Row F u xs h → Row V u xs h
row_map f w.none = w.none
row_map f (w.more {u = u} {x = x} {h = h} a m) = w.more (f u x h a) (row_map f m)

joined_map : {A : Type 0} {F V : Tokens → List A → ℕ → Type 0} → ((u : Tokens) (x : List A) (h : ℕ) → F u x h → V u x h) → {u : Tokens} {xs : List A} {h : ℕ} → Joined F u xs h → Joined V u xs h
joined_map f w.none = w.none
joined_map f (w.more {u = u} {xs = x} {h = h} a m) = w.more (f u x h a) (joined_map f m)

module _ {a b : ℕ} (above : a ≤ b) where
  pub attributes_more : {u : Tokens} → Attributes a u → Attributes b u
  attributes_more c.none = c.none
  attributes_more (c.more f low m) = c.more f (omega arith) (attributes_more m)

  pub claim_more : {word : TokenClass} {u : Tokens} {x : Place × Expr} {h : ℕ} → Claim a word u x h → Claim b word u x h
  claim_more (c.claim i l e j) = c.claim i (attributes_more l) e j

  pub clause_more : {word : TokenClass} {u : Tokens} {f : Bool} {e : Expr} {h : ℕ} → Clause a word u f e h → Clause b word u f e h
  clause_more (c.checked k) = c.checked (claim_more k)
  clause_more (c.free i k) = c.free i (claim_more k)

  pub invariant_more : (u : Tokens) (x : Invariant) (h : ℕ) → InvariantLine a u x h → InvariantLine b u x h
  invariant_more u x h (st.line k) = st.line (clause_more k)

  mutual
    pub statement_more : {u : Tokens} {x : Stmt} {h : ℕ} → Statement a u x h → Statement b u x h
    statement_more (st.asserted k) = st.asserted (claim_more k)
    statement_more (st.assumed k) = st.assumed (claim_more k)
    statement_more (st.assigned l i e j) = st.assigned l i e j
    statement_more (st.called i l r n e j) = st.called i (attributes_more l) r n e j
    statement_more (st.conditional i o e k s t) = st.conditional i o e k (block_more s) (otherwise_more t)
    statement_more (st.loop i o e k l s) = st.loop i o e k (row_map invariant_more l) (block_more s)
    statement_more (st.broken i j) = st.broken i j
    statement_more (st.returned i j) = st.returned i j

    pub otherwise_more : {u : Tokens} {xs : List Stmt} {h : ℕ} → Otherwise a u xs h → Otherwise b u xs h
    otherwise_more st.nothing = st.nothing
    otherwise_more (st.block i s) = st.block i (block_more s)
    otherwise_more (st.chained i j s) = st.chained i j (statement_more s)

    pub block_more : {u : Tokens} {xs : List Stmt} {h : ℕ} → Block a u xs h → Block b u xs h
    block_more (st.braces i s j) = st.braces i (statements_more s) j

    pub statements_more : {u : Tokens} {xs : List Stmt} {h : ℕ} → Statements a u xs h → Statements b u xs h
    statements_more st.none = st.none
    statements_more (st.more s m) = st.more (statement_more s) (statements_more m)

  pub var_line_more : (u : Tokens) (xs : List Var) (h : ℕ) → VarLine a u xs h → VarLine b u xs h
  var_line_more u xs h (pr.line i l v j) = pr.line i (attributes_more l) v j

  pub locals_more : {u : Tokens} {xs : List Var} {h : ℕ} → Joined (VarLine a) u xs h → Joined (VarLine b) u xs h
  locals_more m = joined_map var_line_more m

  pub spec_more : (u : Tokens) (x : Spec) (h : ℕ) → SpecText a u x h → SpecText b u x h
  spec_more u x h (pr.modifies_none i j) = pr.modifies_none i j
  spec_more u x h (pr.modifies i n j) = pr.modifies i n j
  spec_more u x h (pr.requires k) = pr.requires (clause_more k)
  spec_more u x h (pr.ensures k) = pr.ensures (clause_more k)

  pub specs_more : {u : Tokens} {xs : List Spec} {h : ℕ} → Row (SpecText a) u xs h → Row (SpecText b) u xs h
  specs_more m = row_map spec_more m

  pub invariants_more : {u : Tokens} {xs : List Invariant} {h : ℕ} → Row (InvariantLine a) u xs h → Row (InvariantLine b) u xs h
  invariants_more m = row_map invariant_more m

  pub body_more : {u : Tokens} {x : Body} {h : ℕ} → BodyText a u x h → BodyText b u x h
  body_more (pr.braces i v s j) = pr.braces i (locals_more v) (statements_more s) j

  pub declaration_more : (u : Tokens) (x : Decl) (h : ℕ) → Declaration a u x h → Declaration b u x h
  declaration_more u x h (pr.types i l n j) = pr.types i (attributes_more l) n j
  declaration_more u x h (pr.constants i l q v j) = pr.constants i (attributes_more l) q v j
  declaration_more u x h (pr.function i l n e t j) = pr.function i (attributes_more l) n e t j
  declaration_more u x h (pr.axiom_text k) = pr.axiom_text (claim_more k)
  declaration_more u x h (pr.globals v) = pr.globals (var_line_more _ _ _ v)
  declaration_more u x h (pr.declared i l p j m) = pr.declared i (attributes_more l) p j (specs_more m)
  declaration_more u x h (pr.defined i l p m s) = pr.defined i (attributes_more l) p (specs_more m) (body_more s)
  declaration_more u x h (pr.implementation i l p s) = pr.implementation i (attributes_more l) p (body_more s)

  pub declarations_more : {u : Tokens} {xs : List Decl} {h : ℕ} → Row (Declaration a) u xs h → Row (Declaration b) u xs h
  declarations_more m = row_map declaration_more m
