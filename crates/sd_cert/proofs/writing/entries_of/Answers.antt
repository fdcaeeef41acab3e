use Rattle.std.proofs.Common.{◌≡◌, ◌+◌, ◌<◌, ◌++◌, ℕ, List, map, sym, ap, ◌∙◌, subst, arith}
use Rattle.std.specs.List.{AllByRecursion}
use Rattle.sd_product.specs.Inductive.{proved_of}
use Rattle.sd_kernel.specs.declared.Proved.{Proved}
use Rattle.sd_cert.specs.Accepts.{Ascend, entry_from}
use Rattle.sd_cert.proofs.WrittenLemmas.{ascend-least, split-ascends, all-more, below-more, cut-first, none-below, first-above}
use Rattle.sd_cert.proofs.writing.entries_of.Goals as goal
use Rattle.sd_cert.proofs.writing.entries_of.Goals.{in_default, in-len1-up+then-next-end}

pub proofs-init : goal.proofs-init
proofs-init c = record {
  all = ap (λ es. map (entry_from c.args.first) es ++ c.args.proofs.now) c.new-entries.ensures;
  below = subst (λ (es : List Proved). AllByRecursion (λ e. c.args.first + e.candidate < c.args.end) es) (sym c.new-entries.ensures) tt;
}

pub entry_of-requires : goal.entry_of-requires
entry_of-requires c =
    let before = map (entry_from c.args.first) c.proofs.entries in
    let cut = cut-first c.proofs.left.now c.next-item.result c.in-len1-up.len_at_least c.next-item.is in
    ascend-least c.args.first c.requires.ascend.0 before c.next-item.result _ (subst (λ (ps : List Proved). Ascend c.args.first c.requires.ascend.0 (proved_of ps)) (sym c.proofs.invariant.all ∙ ap (λ ps. before ++ ps) cut) c.requires.ascend.1)

pub proofs-preserved : goal.proofs-preserved
proofs-preserved c =
    let cut = cut-first c.proofs.left.now c.next-item.result c.in-len1-up.len_at_least c.next-item.is in record {
      all = all-more c.args.first c.proofs.entries c.push.new.self c.in_ok-entry_of.field-0 c.next-item.result c.proofs.left.now _ c.in_ok-push.ensures.ok c.in_ok-entry_of.ensures cut c.args.proofs.now c.proofs.invariant.all;
      below = below-more c.args.first c.proofs.entries c.push.new.self c.in_ok-entry_of.field-0 c.next-item.result c.proofs.left.now _ c.in_ok-push.ensures.ok c.in_ok-entry_of.ensures cut c.args.end c.if-next-end.false c.proofs.invariant.below;
    }

pub returns-clause-ascend : goal.returns-clause-ascend
returns-clause-ascend c bound a =
    let from : c.args.first ≡ c.args.first + 0 = omega arith in
    split-ascends c.args.first c.args.end bound 0 c.proofs.entries c.proofs.left.now
    (subst (λ (n : ℕ). Ascend n bound (proved_of (map (entry_from c.args.first) c.proofs.entries ++ c.proofs.left.now))) from (subst (λ (ps : List Proved). Ascend c.args.first bound (proved_of ps)) (sym c.proofs.invariant.all) a))
    c.proofs.invariant.below
    (λ k rest e. elim c.if-left-lt1.branch [ in_default w ↦ none-below c.args.end k c.proofs.left.now rest w.in_default.len_below e | in-len1-up+then-next-end w ↦ first-above c.args.end k c.proofs.left.now w.next-item.result rest w.in-len1-up.len_at_least w.next-item.is w.if-next-end.true e ])
