-- The reader of types reads what is a type within its height, and all of it.
use Rattle.std.proofs.Common.{◌≡◌, ℕ, zero, suc, ◌≤◌, max, true, false, cond, ◌∷◌, ◌++◌, refl, ap, sym, ◌∙◌, subst, arith, append_assoc}
use Rattle.std.specs.Prelude.{Bool}
use Rattle.std.proofs.lemmas.List.{append-nil}
use Rattle.sd_base.specs.declared.Sort.{Sort}
use Rattle.sd_base.specs.declared.Sort.TheVariants as sort
use Rattle.sd_parse.specs.declared.class.TokenClass.{TokenClass}
use Rattle.sd_parse.specs.declared.class.TokenClass.TheVariants as s
use Rattle.sd_parse.specs.Grammar.{Tokens}
use Rattle.sd_parse.specs.Types as ty
use Rattle.sd_parse.specs.Types.{TypeText}
use Rattle.sd_parse.specs.Reading.{Syntax, Deep, Got, Bad, Reader, and_then, ahead, class_of, skip, want, deeper}
use Rattle.sd_parse.specs.ReadingTypes.{begins_type, map_type, type_by, type_layer, type_of}
use Rattle.sd_parse.proofs.Texts.{Wanted, wanted, Named, named, Nothing, settle, Both, both}
use Rattle.sd_parse.proofs.ExpressionComplete.{want_reads, name_reads, name_class}
use Rattle.sd_parse.proofs.Rows.{Low}

-- what asks for more height has it
pub deeper_reads : {A : Type 0} (n : ℕ) (p : Reader A) (x : A) (ts rest : Tokens) → 1 ≤ n → p ts ≡ Got x rest → deeper n p ts ≡ Got x rest
deeper_reads zero p x ts rest low e = absurd (omega arith)
deeper_reads (suc n) p x ts rest low e = e

pub type_first : {u : Tokens} {T : Sort} {h : ℕ} (rest : Tokens) → TypeText u T h → begins_type (class_of (ahead (u ++ rest))) ≡ true
type_first rest (ty.int i) = ap begins_type i.same
type_first rest (ty.bool i) = ap begins_type i.same
type_first rest (ty.named {t = t} {x = x} i) = ap begins_type (name_class x t i)
type_first rest (ty.map i a j b) = ap begins_type i.same

pub type_high : {u : Tokens} {T : Sort} {h : ℕ} → TypeText u T h → 1 ≤ h
type_high (ty.int i) = omega arith
type_high (ty.bool i) = omega arith
type_high (ty.named i) = omega arith
type_high (ty.map i a j b) = omega arith

-- what the parts of a type make
module _ (d : ℕ) where
  pub to_int : (u : Tokens) (x : Sort) → Both (Wanted s.Int) (λ _. Nothing sort.Int) u x → Low TypeText (suc d) u x
  to_int u x (both (wanted {t = t} i) n) = settle n (λ z x. Low TypeText (suc d) (t ∷ z) x) (record { height = 1; spelt = ty.int i; low = omega arith })

  pub to_bool : (u : Tokens) (x : Sort) → Both (Wanted s.Bool) (λ _. Nothing sort.Bool) u x → Low TypeText (suc d) u x
  to_bool u x (both (wanted {t = t} i) n) = settle n (λ z x. Low TypeText (suc d) (t ∷ z) x) (record { height = 1; spelt = ty.bool i; low = omega arith })

  pub to_named : (u : Tokens) (x : Sort) → Both Named (λ y. Nothing (sort.Named y.0)) u x → Low TypeText (suc d) u x
  to_named u x (both (named {t = t} i) n) = settle n (λ z x. Low TypeText (suc d) (t ∷ z) x) (record { height = 1; spelt = ty.named i; low = omega arith })

  pub to_map : (u : Tokens) (x : Sort) → Both (Wanted s.OpenBracket) (λ _. Both (Low TypeText d) (λ a. Both (Wanted s.CloseBracket) (λ _. Both (Low TypeText d) (λ b. Nothing (sort.Map a b))))) u x → Low TypeText (suc d) u x
  to_map u x (both (wanted {t = o} i) (both {u = v} {x = a} w (both (wanted {t = c} j) (both {u = q} {x = b} y n)))) =
      settle n (λ z x. Low TypeText (suc d) (o ∷ (v ++ c ∷ (q ++ z))) x)
      (subst (λ z. Low TypeText (suc d) (o ∷ (v ++ c ∷ z)) (sort.Map a b)) (sym (append-nil q)) (record { height = suc (max w.height y.height); spelt = ty.map i w.spelt j y.spelt; low = let l = w.low in let m = y.low in omega arith }))

module _ (d : ℕ) (inner : Reader Sort) where
  module _ (completes : (u : Tokens) (T : Sort) (h : ℕ) (rest : Tokens) → TypeText u T h → h ≤ d → inner (u ++ rest) ≡ Got T rest) where
    layer_complete : {u : Tokens} {T : Sort} {h : ℕ} (rest : Tokens) → TypeText u T h → h ≤ suc d → type_layer d inner (u ++ rest) ≡ Got T rest
    unfolding type_layer map_type
    layer_complete rest (ty.int {t = t} i) low = ap (λ x. type_by d inner x (t ∷ rest)) i.same
    layer_complete rest (ty.bool {t = t} i) low = ap (λ x. type_by d inner x (t ∷ rest)) i.same
    layer_complete rest (ty.named {t = t} {x = x} i) low = ap (λ x. type_by d inner x (t ∷ rest)) (name_class x t i) ∙ rw (name_reads x t rest i) refl
    layer_complete rest (ty.map {o = o} {c = c} {u = u} {v = v} {a = a} {b = b} {h = h} {k = k} i f j g) low =
        ap (λ x. type_by d inner x (o ∷ (u ++ c ∷ v) ++ rest)) i.same ∙ ap (λ ts. map_type d inner (o ∷ ts)) (append_assoc u (c ∷ v) rest)
        ∙ deeper_reads d (λ ts. and_then (skip ts) (λ _ ts. and_then (inner ts) (λ a ts. and_then (want s.CloseBracket ts) (λ _ ts. and_then (inner ts) (λ b ts. Got (sort.Map a b) ts))))) (sort.Map a b) (o ∷ (u ++ c ∷ (v ++ rest))) rest
        (let z = type_high f in omega arith)
        (let first : inner (u ++ c ∷ (v ++ rest)) ≡ Got a (c ∷ (v ++ rest)) = completes u a h (c ∷ (v ++ rest)) f (omega arith) in
        let second : inner (v ++ rest) ≡ Got b rest = completes v b k rest g (omega arith) in
        rw (first, want_reads s.CloseBracket c (v ++ rest) j, second) refl)

-- What is spelled is read.
pub type_complete : (d : ℕ) (u : Tokens) (T : Sort) (h : ℕ) (rest : Tokens) → TypeText u T h → h ≤ d → type_of d (u ++ rest) ≡ Got T rest
unfolding type_of
type_complete zero u T h rest f low = absurd (let z = type_high f in omega arith)
type_complete (suc d) u T h rest f low = layer_complete d (type_of d) (type_complete d) rest f low
