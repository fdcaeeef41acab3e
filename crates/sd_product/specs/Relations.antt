-- Relations between the two sides, of values and as terms.
use Rattle.std.specs.Prelude.{Bool, true, not, ◌&&◌, ◌||◌, List, [], ◌∷◌, ◌++◌, int_le, Option, Some, None, slice_get}
use Rattle.sd_base.specs.Value.{Value, same_value}
use Rattle.sd_base.specs.Meaning.{truth_of, number_of}
use Rattle.sd_core.specs.Store.{Store, read}
use Rattle.sd_core.specs.Run.{nothing}
use Rattle.sd_match.specs.declared.pair.SpotPair.{SpotPair}
use Rattle.sd_term.specs.declared.build.Kind.{Kind}
use Rattle.sd_term.specs.declared.build.Kind.TheVariants as kind
use Rattle.sd_term.specs.Tree.{Tree}
use Rattle.sd_term.specs.Build.{not_of, or_of, relation_of}
use Rattle.sd_vcgen.specs.Body.{constant}
use Rattle.sd_vcgen.specs.Body as body
use Rattle.sd_cand.specs.declared.candidate.Relation.{Relation}
use Rattle.sd_cand.specs.declared.candidate.Claim.{Claim}
use Rattle.sd_cand.specs.declared.candidate.Claim.TheVariants.{Flag, Output}

-- ---- states

-- what a run begins with
abbrev pub entry : {A : Type 0} → (ins globals : List A) → Store A
entry ins globals = record { slots = ins; globals = globals }

-- what it ends with: the outs stand in the slots after the in-parameters
abbrev pub exit : {A : Type 0} → (ins outs globals : List A) → Store A
exit ins outs globals = record { slots = ins ++ outs; globals = globals }

-- ---- of values

abbrev pub related : Kind → Value → Value → Bool
related kind.Eq a b = same_value a b
related kind.Le a b = int_le (number_of a) (number_of b)
related kind.Ge a b = int_le (number_of b) (number_of a)
related kind.Imp a b = not (truth_of a) || truth_of b
related kind.Pmi a b = not (truth_of b) || truth_of a

abbrev pub related_at : Kind → Store Value → Store Value → Option SpotPair → Bool
related_at k old new None = true
related_at k old new (Some s) = related k (read nothing old s.old) (read nothing new s.new)

-- whether a relation holds of two states
abbrev pub holds_of : List SpotPair → Store Value → Store Value → Relation → Bool
holds_of places old new r = related_at r.kind old new (slice_get places r.place)

abbrev pub all_hold : List SpotPair → Store Value → Store Value → List Relation → Bool
all_hold places old new [] = true
all_hold places old new (r ∷ rs) = holds_of places old new r && all_hold places old new rs

-- whether a claim holds of two ends
abbrev pub claim_holds : List SpotPair → Claim → Store Value → Bool → Store Value → Bool → Bool
claim_holds places Flag old old_flag new new_flag = not new_flag || old_flag
claim_holds places (Output r) old old_flag new new_flag = (old_flag || new_flag) || holds_of places old new r

-- ---- as terms

abbrev pub term_at : Kind → Store Tree → Store Tree → Option SpotPair → Tree
term_at k old new None = constant true
term_at k old new (Some s) = relation_of k (read body.nothing old s.old) (read body.nothing new s.new)

abbrev pub term_of : List SpotPair → Store Tree → Store Tree → Relation → Tree
term_of places old new r = term_at r.kind old new (slice_get places r.place)

abbrev pub claim_term : List SpotPair → Claim → Store Tree → Tree → Store Tree → Tree → Tree
claim_term places Flag old old_flag new new_flag = or_of (not_of new_flag) old_flag
claim_term places (Output r) old old_flag new new_flag = or_of (or_of old_flag new_flag) (term_of places old new r)
