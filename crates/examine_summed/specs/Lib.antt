-- The counts and the stacks as the examination goes through them.
pub mod Counted
pub mod Stacked
