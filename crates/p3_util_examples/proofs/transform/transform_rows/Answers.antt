-- The reversal makes the first stage, each turn makes one more, and the last stage is the transform.
use Rattle.std.proofs.Common.{◌≡◌, ◌-◌, ◌*◌, ◌^◌, ◌<◌, ◌∙◌, length, sym, subst, rules, mul_comm, mul-lt-mul_of_pos_right, arith}
use Rattle.std.proofs.lemmas.Nat.{pow_below, pow_pos, pow-add}
use Rattle.p3_util_examples.specs.Stages.{AreBlocksJoined, IsStage}
use Rattle.p3_util_examples.proofs.TransformLemmas.Stages.{AreBelowPrime-reversed, IsStage-first, IsStage-last, IsStage-step, stage_half, stage_rows}
use Rattle.p3_util_examples.proofs.transform.transform_rows.Goals as goal

pub loop-s-init : goal.loop-s-init
loop-s-init c =
    let old = c.args.values.now in
    let new = c.reverse_rows.new.values in
    let k = c.args.levels in
    let order = c.reverse_rows.ensures in
    let all : k - 0 ≡ k = omega arith in
    record {
      below = AreBelowPrime-reversed c.args.width k old new c.requires.len order c.requires.below;
      stage = λ root is_root are_powers. subst (λ m. IsStage root c.args.width m 0 old new) (sym all) (IsStage-first root c.args.width k old new c.requires.len c.requires.below order);
    }

pub join_blocks-requires-clause-rows : goal.join_blocks-requires-clause-rows
join_blocks-requires-clause-rows c =
    let k = c.args.levels in
    let s = c.loop-s.s in
    rw (c.power-blocks.ensures, c.power.ensures, stage_rows k s c.loop-s-test.true) (pow_below k 64 c.requires.levels)

pub join_blocks-requires-clause-len : goal.join_blocks-requires-clause-len
join_blocks-requires-clause-len c =
    let k = c.args.levels in
    let s = c.loop-s.s in
    let same : length c.loop-s.values ≡ length c.args.values.now = search rules in
    rw (c.power-blocks.ensures, c.power.ensures, stage_rows k s c.loop-s-test.true) (same ∙ c.requires.len ∙ mul_comm c.args.width (2 ^ k))

pub join_blocks-requires-clause-enough : goal.join_blocks-requires-clause-enough
join_blocks-requires-clause-enough c i h =
    let k = c.args.levels in
    let s = c.loop-s.s in
    let m = k - 1 - s in
    let less : i < 2 ^ s = rw c.power.ensures at h in
    let within : i * 2 ^ m < 2 ^ s * 2 ^ m = mul-lt-mul_of_pos_right less (pow_pos m) in
    let all : 2 ^ s * 2 ^ m ≡ length c.args.powers.now =
    mul_comm (2 ^ s) (2 ^ m) ∙ sym (pow-add 2 m s) ∙ stage_half k s c.loop-s-test.true ∙ sym c.requires.count in
    rw c.power-blocks.ensures (rw all at within)

pub loop-s-preserved : goal.loop-s-preserved
loop-s-preserved c =
    let k = c.args.levels in
    let s = c.loop-s.s in
    let m = k - 1 - s in
    let mid = c.loop-s.values in
    let new = c.join_blocks.new.values in
    let joined : AreBlocksJoined c.args.width (2 ^ s) (2 ^ m) (2 ^ m) c.args.powers.now mid new = rw (c.power-blocks.ensures, c.power.ensures) at c.join_blocks.ensures.joined in
    let same : length new ≡ length mid = search rules in
    record {
      below = c.join_blocks.ensures.below;
      stage = λ root is_root are_powers.
          IsStage-step root c.args.width k s c.args.powers.now c.args.values.now mid new c.loop-s-test.true is_root are_powers
          (c.loop-s.invariant.stage root is_root are_powers) same joined;
    }

pub returns-clause-transformed : goal.returns-clause-transformed
returns-clause-transformed c root is_root are_powers =
    let k = c.args.levels in
    let end : c.loop-s.s ≡ k = omega arith in
    let none : k - k ≡ 0 = omega arith in
    IsStage-last root c.args.width k _ _ (rw none at (rw end at (c.loop-s.invariant.stage root is_root are_powers)))
