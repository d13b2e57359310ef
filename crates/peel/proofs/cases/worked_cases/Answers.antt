use Rattle.std.proofs.Common.{refl, arith}
use Rattle.peel.specs.Tolerances.{stands, falls}
use Rattle.peel.proofs.cases.worked_cases.Goals as goal

pub returns : goal.returns
returns c = record {
  count = refl;
  cases = record {
    height_ten = falls {d = 6} (omega arith) (omega arith, λ x h. omega arith)
        (falls {d = 3} (omega arith) (omega arith, λ x h. omega arith)
        (falls {d = 1} (omega arith) (omega arith, λ x h. omega arith)
        (falls {d = 0} (omega arith) (omega arith, λ x h. omega arith) stands)));
    height_four = falls {d = 1} (omega arith) (omega arith, λ x h. omega arith)
        (falls {d = 0} (omega arith) (omega arith, λ x h. omega arith) stands);
    height_one = λ p q a b. falls {d = 0} (omega arith) (omega arith, λ x h. grind arith) stands;
    finest = refl;
    coarsest = refl;
    no_share = refl;
    over_one = refl;
    too_fine = refl;
    not_below = refl;
    is_below = refl;
    half_below = refl;
    half_not_below = refl;
    clique_reaches = refl;
    spread_falls_short = refl;
  };
}
