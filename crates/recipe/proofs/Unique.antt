-- Each contract leaves one reply: it is an equation for the reply, or for what the reply means, which no other reply means.
-- Assumes nothing.
use mathlib.Core.Path.{◌≡◌, refl, sym, ap, ◌∙◌}
use Rattle.std.specs.Prelude.{Result, Ok, Err}
use Rattle.recipe.specs.Tables.{Kind, meant}
use Rattle.recipe.specs.declared.Kind as coded
use Rattle.recipe.specs.declared.Kind.TheVariants as coded_as
use Rattle.recipe.specs.declared.UnknownKind.{UnknownKind}
use Rattle.recipe.proofs.KindTryFromU8.try_from.Reads.{Post as try_from-post}
use Rattle.recipe.proofs.Table.judge_with.Reads.{Post as judge-with-post}
use Rattle.recipe.proofs.Table.judge.Reads.{Post as judge-post}

-- The reply that means a kind.
abbrev reply_of : Kind → Result coded.Kind UnknownKind
reply_of Kind.skip = Ok coded_as.Skip
reply_of Kind.step = Ok coded_as.Step
reply_of Kind.seq = Ok coded_as.Seq
reply_of Kind.loop = Ok coded_as.Loop
reply_of Kind.async = Ok coded_as.Async
reply_of Kind.finish = Ok coded_as.Finish
reply_of Kind.call = Ok coded_as.Call
reply_of Kind.unknown = Err (record {})

the_reply : (r : Result coded.Kind UnknownKind) → reply_of (meant r) ≡ r
the_reply (Ok coded_as.Skip) = refl
the_reply (Ok coded_as.Step) = refl
the_reply (Ok coded_as.Seq) = refl
the_reply (Ok coded_as.Loop) = refl
the_reply (Ok coded_as.Async) = refl
the_reply (Ok coded_as.Finish) = refl
the_reply (Ok coded_as.Call) = refl
the_reply (Err none) = refl

pub try_from_determined : (κs a r r' s s' : _) → try_from-post κs a r s → try_from-post κs a r' s' → r ≡ r'
try_from_determined κs a r r' s s' p q = sym (the_reply r) ∙ ap reply_of (sym p ∙ q) ∙ the_reply r'

pub judge_determined : (κs a r r' s s' : _) → judge-post κs a r s → judge-post κs a r' s' → r ≡ r'
judge_determined κs a r r' s s' p q = p ∙ sym q

pub judge_with_determined : (κs a r r' s s' : _) → judge-with-post κs a r s → judge-with-post κs a r' s' → r ≡ r'
judge_with_determined κs a r r' s s' p q = p ∙ sym q
