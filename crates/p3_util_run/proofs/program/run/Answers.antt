-- How each ending of a run follows from what it read, answered and wrote.
use Rattle.std.proofs.Common.{string_bytes, Err}
use Rattle.std.specs.Prelude.{⊤}
use Rattle.p3_util_run.specs.Program.{texts_of}
use Rattle.p3_util_run.proofs.Endings.{answers, ends_refused, ends_written, one_text, refuses}
use Rattle.p3_util_run.proofs.program.run.Goals as goal

pub returns-in-Ok-clause-answers : goal.returns-in-Ok-clause-answers
returns-in-Ok-clause-answers g c =
    answers (texts_of c.args.words.now) c.in-Some.command _ _ c.in_ok-input.input.items c.write_all.result c.in-Some.ensures
    c.in_ok-input.ensures.read
    (ends_written c.in-Some.command c.in_ok-input.input.items (string_bytes c.in-Ok.text) c.write_all.result c.in-Ok.ensures.ok c.write_all.ensures.kind)

pub returns-in-Ok-clause-refuses : goal.returns-in-Ok-clause-refuses
returns-in-Ok-clause-refuses g c =
    refuses (texts_of c.args.words.now) c.in-Some.command _ _ c.in_ok-input.input.items c.write_all.result c.in-Some.ensures
    c.in_ok-input.ensures.read
    (ends_written c.in-Some.command c.in_ok-input.input.items (string_bytes c.in-Ok.text) c.write_all.result c.in-Ok.ensures.ok c.write_all.ensures.kind)

pub returns-in-Err-clause-answers : goal.returns-in-Err-clause-answers
returns-in-Err-clause-answers g c =
    answers {T = ⊤} (texts_of c.args.words.now) c.in-Some.command _ _ c.in_ok-input.input.items (Err c.in-Err.fault) c.in-Some.ensures
    c.in_ok-input.ensures.read
    (ends_refused c.in-Some.command c.in_ok-input.input.items c.in-Err.fault c.in-Err.ensures.err)

pub returns-in-Err-clause-refuses : goal.returns-in-Err-clause-refuses
returns-in-Err-clause-refuses g c =
    refuses {T = ⊤} (texts_of c.args.words.now) c.in-Some.command _ _ c.in_ok-input.input.items (Err c.in-Err.fault) c.in-Some.ensures
    c.in_ok-input.ensures.read
    (ends_refused c.in-Some.command c.in_ok-input.input.items c.in-Err.fault c.in-Err.ensures.err)

pub returns-in_err-input-clause-one_text : goal.returns-in_err-input-clause-one_text
returns-in_err-input-clause-one_text g c = one_text (texts_of c.args.words.now)

pub returns-in-Ok-clause-one_text : goal.returns-in-Ok-clause-one_text
returns-in-Ok-clause-one_text g c = one_text (texts_of c.args.words.now)

pub returns-in-Err-clause-one_text : goal.returns-in-Err-clause-one_text
returns-in-Err-clause-one_text g c = one_text (texts_of c.args.words.now)
