use Rattle.std.proofs.Common.{arith, rules}
use Rattle.sd_product.proofs.WorkLemmas.{first_within, first_at, numbers_at, few_numbers}
use Rattle.sd_product.proofs.work.Work.numbers_of.Goals as goal

pub index-first-requires : goal.index-first-requires
index-first-requires c = let within = first_within c.self.inside c.self.invariant c.args.self.now c.self.view_is c.args.pair c.requires in search (rules, within)

pub overflow_cast-result : goal.overflow_cast-result
overflow_cast-result c =
    let numbers = numbers_at c.self.inside c.self.invariant c.args.self.now c.self.view_is c.args.pair c.requires c.index.result.now c.index-first.result.now c.len-count.result c.index.ensures c.index-first.ensures c.len-count.ensures in
    let few = few_numbers c.self.inside c.self.invariant c.args.self.now c.self.view_is c.args.pair c.requires _ _ numbers in
    omega (arith, few)

pub overflow_add-result : goal.overflow_add-result
overflow_add-result c =
    let numbers = numbers_at c.self.inside c.self.invariant c.args.self.now c.self.view_is c.args.pair c.requires c.index.result.now c.index-first.result.now c.len-count.result c.index.ensures c.index-first.ensures c.len-count.ensures in
    let few = few_numbers c.self.inside c.self.invariant c.args.self.now c.self.view_is c.args.pair c.requires _ _ numbers in
    omega (arith, few)

pub returns-clause-first : goal.returns-clause-first
returns-clause-first c = first_at c.self.inside c.self.invariant c.args.self.now c.self.view_is c.args.pair c.requires c.index-first.result.now c.index-first.ensures

pub returns-clause-end : goal.returns-clause-end
returns-clause-end c = (numbers_at c.self.inside c.self.invariant c.args.self.now c.self.view_is c.args.pair c.requires c.index.result.now c.index-first.result.now c.len-count.result c.index.ensures c.index-first.ensures c.len-count.ensures).last

pub returns-clause-within : goal.returns-clause-within
returns-clause-within c = (numbers_at c.self.inside c.self.invariant c.args.self.now c.self.view_is c.args.pair c.requires c.index.result.now c.index-first.result.now c.len-count.result c.index.ensures c.index-first.ensures c.len-count.ensures).within

pub returns-clause-own : goal.returns-clause-own
returns-clause-own c = (numbers_at c.self.inside c.self.invariant c.args.self.now c.self.view_is c.args.pair c.requires c.index.result.now c.index-first.result.now c.len-count.result c.index.ensures c.index-first.ensures c.len-count.ensures).own
