-- What words say, in the terms of the published rules.
use Rattle.std.specs.Prelude.{◌≡◌, ℕ}
use Rattle.labels.specs.Sets.{member}
use Rattle.matrix.specs.Matrix.{marked}
use Rattle.calculus.specs.Rules.{Summary}
use Rattle.analysis.specs.Summaries.{WordSummary}

-- The three sets that a summary's words stand for.
abbrev pub meaning : ℕ → WordSummary → Summary
meaning w x =
    record {
      M = λ i j. marked w x.M i j ≡ 1;
      O = λ l. member x.O l ≡ 1;
      L = λ l. member x.L l ≡ 1;
    }
