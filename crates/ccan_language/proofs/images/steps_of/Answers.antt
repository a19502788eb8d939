use Rattle.std.proofs.Common.{rules, refl}
use Rattle.ccan_language.proofs.images.steps_of.Goals as goal

pub returns : goal.returns
returns c = record {
  by_edge = record { letters = c.in_ok-letters.letters; to = c.args.edge.to };
  by_others = record { letters = c.new.result; to = c.args.edge.others };
  steps_are =
      let first = c.in_ok-push.ensures.items in
      let second = c.in_ok-push-2.ensures.items in
      search (rules, first, second);
  letters_are = c.in_ok-letters.ensures;
  edge_to = refl;
  no_letters = c.new.ensures.items;
  others_to = refl;
}
