use Rattle.std.proofs.Common.{◌<◌, refl, subst, arith, ◌≡◌}
use Rattle.sd_euf.specs.Links.{link_at, reached_at, IsChain}
use Rattle.sd_euf.proofs.LinkLemmas.{chain-none, chain-more}
use Rattle.sd_euf.proofs.links.chain_from.Goals as goal

pub loop-here-init : goal.loop-here-init
loop-here-init c = record {
  within = c.requires.at;
  chain = λ terms values h. chain-none terms values (reached_at terms c.args.links.now c.args.at) (reached_at terms c.args.links.now c.args.at) c.new-chain.result c.new-chain.ensures refl;
}

pub loop-here-preserved : goal.loop-here-preserved
loop-here-preserved c =
    let down : (link_at c.args.links.now c.loop-here.here).from < c.loop-here.here = c.requires.down c.loop-here.here c.loop-here-test.true c.loop-here.invariant.within in
    record {
      within = omega (arith, down, c.loop-here.invariant.within);
      chain = λ terms values h.
          let l = h.linked c.loop-here.here c.loop-here-test.true c.loop-here.invariant.within in
          chain-more terms values (reached_at terms c.args.links.now c.args.at) c.loop-here.chain c.push.new.self (reached_at terms c.args.links.now c.loop-here.here)
          (reached_at terms c.args.links.now (link_at c.args.links.now c.loop-here.here).from) (link_at c.args.links.now c.loop-here.here).by
          (c.loop-here.invariant.chain terms values h) l.by l.other c.in_ok-push.ensures.ok;
    }

pub returns : goal.returns
returns c = λ terms values h.
    let end : c.loop-here.here ≡ 0 = omega (arith, c.loop-here-test.false) in
    subst (λ n. IsChain terms values (reached_at terms c.args.links.now c.args.at) c.loop-here.chain (reached_at terms c.args.links.now n)) end (c.loop-here.invariant.chain terms values h)
