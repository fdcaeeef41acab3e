use Rattle.std.proofs.Common.{sym, ◌∙◌, ap, refl, subst, ◌≤◌, ◌+◌, ◌++◌, ◌∷◌, [], length, drop, is_ok, arith, append_assoc, length-drop}
use Rattle.std.proofs.ResultArms.{chosen}
use Rattle.std.proofs.lemmas.List.{append-nil, drop_all}
use Rattle.sd_lex.specs.Pieces.{BeginsWith}
use Rattle.sd_lex.specs.Tokens.{Tokens, token_at, ended}
use Rattle.sd_lex.proofs.Cuts.{tail_of}
use Rattle.sd_lex.proofs.Steps.{gap_step, token_step, gap_refused, token_refused, refused_here}
use Rattle.sd_lex.proofs.lex.tokens.Goals as goal
use Rattle.sd_lex.proofs.lex.tokens.Goals.{in-Gap, in-Whole+in_ok-push-in-Whole}

pub returns-in-Wide-clause-refused : goal.returns-in-Wide-clause-refused
returns-in-Wide-clause-refused c =
    let cut = subst (λ t. BeginsWith t c.in_ok-piece.piece c.in_ok-piece.len) (tail_of c.loop-at.at c.args.bytes.now) c.in_ok-piece.ensures in
    let this = subst (λ p. BeginsWith (drop c.loop-at.at c.args.bytes.now) p c.in_ok-piece.len) c.in-Wide.is cut in
    λ _. c.loop-at.invariant.refused _ (refused_here c.args.bytes.now c.loop-at.at c.in_ok-piece.len _ _ this refl)

pub returns-in-Unsupported-clause-refused : goal.returns-in-Unsupported-clause-refused
returns-in-Unsupported-clause-refused c =
    let cut = subst (λ t. BeginsWith t c.in_ok-piece.piece c.in_ok-piece.len) (tail_of c.loop-at.at c.args.bytes.now) c.in_ok-piece.ensures in
    let this = subst (λ p. BeginsWith (drop c.loop-at.at c.args.bytes.now) p c.in_ok-piece.len) c.in-Unsupported.is cut in
    λ _. c.loop-at.invariant.refused _ (refused_here c.args.bytes.now c.loop-at.at c.in_ok-piece.len _ _ this refl)

pub returns-in-BadByte-clause-refused : goal.returns-in-BadByte-clause-refused
returns-in-BadByte-clause-refused c =
    let cut = subst (λ t. BeginsWith t c.in_ok-piece.piece c.in_ok-piece.len) (tail_of c.loop-at.at c.args.bytes.now) c.in_ok-piece.ensures in
    let this = subst (λ p. BeginsWith (drop c.loop-at.at c.args.bytes.now) p c.in_ok-piece.len) c.in-BadByte.is cut in
    λ _. c.loop-at.invariant.refused _ (refused_here c.args.bytes.now c.loop-at.at c.in_ok-piece.len _ _ this refl)

pub returns-in-OpenComment-clause-refused : goal.returns-in-OpenComment-clause-refused
returns-in-OpenComment-clause-refused c =
    let cut = subst (λ t. BeginsWith t c.in_ok-piece.piece c.in_ok-piece.len) (tail_of c.loop-at.at c.args.bytes.now) c.in_ok-piece.ensures in
    let this = subst (λ p. BeginsWith (drop c.loop-at.at c.args.bytes.now) p c.in_ok-piece.len) c.in-OpenComment.is cut in
    λ _. c.loop-at.invariant.refused _ (refused_here c.args.bytes.now c.loop-at.at c.in_ok-piece.len _ _ this refl)

pub returns-in-OpenString-clause-refused : goal.returns-in-OpenString-clause-refused
returns-in-OpenString-clause-refused c =
    let cut = subst (λ t. BeginsWith t c.in_ok-piece.piece c.in_ok-piece.len) (tail_of c.loop-at.at c.args.bytes.now) c.in_ok-piece.ensures in
    let this = subst (λ p. BeginsWith (drop c.loop-at.at c.args.bytes.now) p c.in_ok-piece.len) c.in-OpenString.is cut in
    λ _. c.loop-at.invariant.refused _ (refused_here c.args.bytes.now c.loop-at.at c.in_ok-piece.len _ _ this refl)

pub loop-at-preserved : goal.loop-at-preserved
loop-at-preserved c =
    let bytes = c.args.bytes.now in
    let at = c.loop-at.at in
    let n = c.in_ok-piece.len in
    let cut = subst (λ t. BeginsWith t c.in_ok-piece.piece n) (tail_of at bytes) c.in_ok-piece.ensures in
    let inside : at + n ≤ length bytes = omega (arith, cut.within, length-drop at bytes) in
    elim c.match-piece.branch [
      | in-Gap w ↦
          let this = subst (λ p. BeginsWith (drop at bytes) p n) w.in-Gap.is cut in
          record {
            within = inside;
            tokens = λ more t. subst (λ f. Tokens 0 bytes (f.items ++ more)) (sym w.found-is) (c.loop-at.invariant.tokens more (gap_step bytes at n more this t));
            refused = λ e r. c.loop-at.invariant.refused e (gap_refused bytes at n e this r);
          }
      | in-Whole+in_ok-push-in-Whole w ↦
          let this = subst (λ p. BeginsWith (drop at bytes) p n) w.in-Whole.is cut in
          let pushed = chosen _ _ _ _ w.push.ensures.items (ap is_ok w.in_ok-push-in-Whole.was) in
          record {
            within = inside;
            tokens = λ more t.
                let items = ap (λ f. f.items) w.found-is ∙ pushed in
                subst (Tokens 0 bytes) (sym (ap (λ f. f ++ more) items ∙ append_assoc c.loop-at.found.items (token_at at w.in-Whole.kind ∷ []) more))
                (c.loop-at.invariant.tokens (token_at at w.in-Whole.kind ∷ more) (token_step bytes at n w.in-Whole.kind more this t));
            refused = λ e r. c.loop-at.invariant.refused e (token_refused bytes at n _ e this r);
          }
    ]

pub returns-clause-found : goal.returns-clause-found
returns-clause-found c =
    let bytes = c.args.bytes.now in
    subst (Tokens 0 bytes) (append-nil c.loop-at.found.items) (c.loop-at.invariant.tokens [] (subst (λ r. Tokens c.loop-at.at r []) (sym (drop_all c.loop-at.at bytes c.loop-at-test.false)) ended))
