use Rattle.std.proofs.Common.{◌∙◌, ap}
use Rattle.sd_product.specs.Query.{is_constant}
use Rattle.sd_product.proofs.apart.is_constant.Goals as goal

pub returns : goal.returns
returns c = c.is_node_of.ensures c.args.terms.now ∙ ap (is_constant c.args.constant.now) c.node.ensures.tree
