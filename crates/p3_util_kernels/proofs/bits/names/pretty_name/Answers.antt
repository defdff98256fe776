use Rattle.std.proofs.Common.{◌≡◌, List, ℕ, ◌++◌, rules, arith, length, sym, ◌∙◌, ap, append_assoc, string_bytes}
use Rattle.p3_util_kernels.specs.Names.{short_name, last_part}
use Rattle.p3_util_kernels.proofs.BitsLemmas.Names.{length-last_part, short_name-unmarked, short_name-marked, cut_after_mark}
use Rattle.p3_util_kernels.proofs.bits.names.pretty_name.Goals as goal

-- the text joined so far, with one more part
joined : (old part after rest whole new : List ℕ) → new ≡ old ++ part → rest ≡ part ++ after → old ++ rest ≡ whole → new ++ after ≡ whole
joined old part after rest whole new one two three =
    ap (λ s. s ++ after) one ∙ append_assoc old part after ∙ ap (λ s. old ++ s) (sym two) ∙ three

pub split_at-requires : goal.split_at-requires
split_at-requires c = (cut_after_mark c.loop-end.rest.now c.in-Some.end c.loop-end.invariant.text c.in-Some.ensures.place).1

pub loop-end-preserved : goal.loop-end-preserved
loop-end-preserved c =
    let marked = short_name-marked c.loop-end.rest.now c.in-Some.end c.in-Some.ensures.place in
    let part = c.last_part.ensures ∙ ap last_part c.split_at.ensures.front in
    let rest : short_name c.loop-end.rest.now ≡ c.last_part.result.now ++ short_name c.split_at.result.1.now =
    rw (part, c.split_at.ensures.back) marked in
    let short = length-last_part c.split_at.result.0.now in
    record {
      text = search rules;
      joined = joined _ c.last_part.result.now (short_name c.split_at.result.1.now) (short_name c.loop-end.rest.now) _ _ c.in_ok-push_str.ensures.bytes rest c.loop-end.invariant.joined;
      room = omega (arith, c.in_ok-push_str.ensures.len, c.in_ok-push_str.ensures.capacity, ap length c.last_part.ensures);
    }

pub returns-in_err-push_str-clause-refused : goal.returns-in_err-push_str-clause-refused
returns-in_err-push_str-clause-refused c =
    let short = length-last_part c.split_at.result.0.now in
    absurd (omega (arith, c.in_err-push_str.ensures.full, ap length c.last_part.ensures))

pub returns-in_err-push_str-2-clause-refused : goal.returns-in_err-push_str-2-clause-refused
returns-in_err-push_str-2-clause-refused c =
    let short = length-last_part c.loop-end.rest.now in
    absurd (omega (arith, c.in_err-push_str-2.ensures.full, ap length c.last_part-2.ensures))

pub returns-clause-short : goal.returns-clause-short
returns-clause-short c =
    let unmarked = short_name-unmarked c.loop-end.rest.now c.in_default.ensures.place in
    let part : c.last_part-2.result.now ≡ short_name c.loop-end.rest.now = c.last_part-2.ensures ∙ sym unmarked in
    c.in_ok-push_str-2.ensures.bytes ∙ ap (λ s. string_bytes c.loop-end.short ++ s) part ∙ c.loop-end.invariant.joined
