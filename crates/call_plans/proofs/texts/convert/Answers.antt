use mathlib.Core.Path.{sym, ◌∙◌}
use borrow.Author.Tests.{lt-ltb, le-ltb}
use Rattle.call_plans.proofs.Converting as converting
use Rattle.call_plans.proofs.texts.convert.Goals as goal

pub returns-then-text-gt65536 : goal.returns-then-text-gt65536
returns-then-text-gt65536 c = let told = converting.too_long c.args.text.now c.args.buffer.now (lt-ltb 65536 _ c.if-text-gt65536.true) in record { answer = told.0; buffer = told.1.0; named = told.1.1 }

pub returns-then-not-of_profile : goal.returns-then-not-of_profile
returns-then-not-of_profile c =
    let told = converting.outside c.args.text.now c.args.buffer.now (le-ltb 65536 _ c.if-text-gt65536.false) (sym c.of_profile.ensures ∙ c.if-not-of_profile.true) in
    record { answer = told.0; buffer = told.1.0; named = told.1.1 }

pub write_plan-requires : goal.write_plan-requires
write_plan-requires c = record { text_len_bound = c.if-text-gt65536.false; text_value = sym c.of_profile.ensures ∙ c.if-not-of_profile.false }

pub returns : goal.returns
returns c =
    let told = converting.of_profile_lem c.args.text.now c.args.buffer.now (le-ltb 65536 _ c.if-text-gt65536.false) (sym c.of_profile.ensures ∙ c.if-not-of_profile.false) c.write_plan.ensures in
    record { answer = told.0; buffer = told.1.0; named = told.1.1 }
