-- the form of each tree is within the bounds
use Rattle.std.proofs.Common.{◌≡◌, ℕ, zero, suc, ◌≤◌, ◌^◌, List, [], ◌∷◌, map, take, arith, pos, negsuc, unsigned_abs, subst, sym, Ok, Err}
use Rattle.std.specs.Prelude.{Result, IfOk}
use Rattle.std.specs.List.{AllByRecursion}
use Rattle.sd_base.proofs.Lists.{all-push}
use Rattle.sd_term.specs.declared.node.Head.{Head}
use Rattle.sd_term.specs.declared.node.Head.TheVariants.{Num}
use Rattle.sd_term.specs.Heads.{Add, Sub, Mul, Neg}
use Rattle.sd_term.specs.Tree.{Tree, leaf, call, head_of, at_parts}
use Rattle.sd_rows.specs.declared.form.Form.{Form}
use Rattle.sd_rows.specs.Rows.{IsProper}
use Rattle.sd_rows.specs.Forms.{IsFit, constant, plus, less, scaled}
use Rattle.sd_rows.proofs.FormLemmas.{IsFit-column, IsFit-number, IsFit-bounded, IsFit-product, IsProper-plus, IsProper-less, IsProper-times_by, less-near}
use Rattle.sd_forms.specs.LinearForms.{place_of, form_at, form_by, form_of}

abbrev pub AllFit : List Form → Type 0
AllFit fs = AllByRecursion IsFit fs

pub IsFit-at : (fs : List Form) (k : ℕ) → AllFit fs → IsFit (form_at fs k)
IsFit-at [] k a = IsFit-number (pos 0) (omega arith)
IsFit-at (f ∷ fs) zero a = a.0
IsFit-at (f ∷ fs) (suc k) a = IsFit-at fs k a.1

IsFit-by : (h : Head) (k : ℕ) (fs : List Form) → AllFit fs → IsFit (form_by h k fs)
IsFit-by (Num n) k fs a = IsFit-bounded k (constant (pos n)) (record { ascending = tt; no_zero = tt })
IsFit-by Add k fs a = IsFit-bounded k (plus (form_at fs 0) (form_at fs 1)) (IsProper-plus (form_at fs 0) (form_at fs 1) (IsFit-at fs 0 a).proper (IsFit-at fs 1 a).proper)
IsFit-by Sub k fs a = IsFit-bounded k (less (form_at fs 0) (form_at fs 1)) (IsProper-less (form_at fs 0) (form_at fs 1) (IsFit-at fs 0 a).proper (IsFit-at fs 1 a).proper)
IsFit-by Neg k fs a = IsFit-bounded k (scaled (negsuc 0) (form_at fs 0)) (IsProper-times_by (negsuc 0) (form_at fs 0).parts (IsFit-at fs 0 a).proper)
IsFit-by Mul k fs a = IsFit-product k (form_at fs 0) (form_at fs 1) (IsFit-at fs 0 a).proper (IsFit-at fs 1 a).proper
IsFit-by _ k fs a = IsFit-column k

AllFit-parts : (terms : List Tree) (t : Tree) → AllFit (at_parts (λ u fs. form_by (head_of u) (place_of terms u) fs) t)
AllFit-parts terms (leaf h) = tt
AllFit-parts terms (call f x) =
    all-push IsFit (at_parts (λ u fs. form_by (head_of u) (place_of terms u) fs) f) (form_of terms x) (AllFit-parts terms f)
    (IsFit-by (head_of x) (place_of terms x) (at_parts (λ u fs. form_by (head_of u) (place_of terms u) fs) x) (AllFit-parts terms x))

pub IsFit-form_of : (terms : List Tree) (t : Tree) → IsFit (form_of terms t)
IsFit-form_of terms t = IsFit-by (head_of t) (place_of terms t) (at_parts (λ u fs. form_by (head_of u) (place_of terms u) fs) t) (AllFit-parts terms t)

pub AllFit-forms : (terms ts : List Tree) → AllFit (map (form_of terms) ts)
AllFit-forms terms [] = tt
AllFit-forms terms (t ∷ ts) = (IsFit-form_of terms t, AllFit-forms terms ts)

pub AllFit-at : (fs : List Form) (ps : List ℕ) → AllFit fs → AllFit (map (λ p. form_at fs p) ps)
AllFit-at fs [] a = tt
AllFit-at fs (p ∷ ps) a = (IsFit-at fs p a, AllFit-at fs ps a)

-- the form of a node's part, in a table of forms
pub IsFit-part : (terms : List Tree) (forms : List Form) (n : ℕ) (ps : List ℕ) (k : ℕ) (f : Form) → forms ≡ map (form_of terms) (take n terms) → f ≡ form_at (map (λ p. form_at forms p) ps) k → IsFit f
IsFit-part terms forms n ps k f is e =
    subst IsFit (sym e) (IsFit-at (map (λ p. form_at forms p) ps) k (AllFit-at forms ps (subst AllFit (sym is) (AllFit-forms terms (take n terms)))))

-- what follows of a result where there is one
pub if-ok : {T E : Type 0} {P Q : T → Type 0} (r : Result T E) → ((x : T) → P x → Q x) → IfOk r P → IfOk r Q
if-ok (Ok x) f h = f x h
if-ok (Err e) f h = tt

-- a difference of forms within the bounds
pub difference-proper : (d f g : Form) → IsFit f → IsFit g → d ≡ less f g → IsProper d.parts
difference-proper d f g h k e = subst (λ (x : Form). IsProper x.parts) (sym e) (IsProper-less f g h.proper k.proper)

pub difference-near : (d f g : Form) → IsFit f → IsFit g → d ≡ less f g → unsigned_abs d.constant ≤ 2 ^ 67
difference-near d f g h k e = subst (λ (x : Form). unsigned_abs x.constant ≤ 2 ^ 67) (sym e) (less-near f g h k)
