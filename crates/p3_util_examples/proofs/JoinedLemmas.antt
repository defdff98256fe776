-- Two lists joined to one: an exchange in the first, in the second or across both.
pub use Rattle.p3_util.proofs.JoinedLists.{in-front as joined_front, in-back as joined_back, swap-sym as swap_turned, across as joined_across}
