-- The range of each limit.
use Rattle.std.specs.Prelude.{◌≤◌}
use Rattle.lti_outside.specs.declared.limits.Limits.{Limits}

pub record IsSound (limits : Limits) : Type 0 where
  pub window : (1 ≤ limits.window) × (limits.window ≤ 1000000)
  pub head : (64 ≤ limits.head) × (limits.head ≤ 1048576)
  pub headers : (1 ≤ limits.headers) × (limits.headers ≤ 64)
  pub body : limits.body ≤ 16777216
  pub requests : (1 ≤ limits.requests) × (limits.requests ≤ 1000000)
  pub calls : (1 ≤ limits.calls) × (limits.calls ≤ 1000000)
  pub items : (1 ≤ limits.items) × (limits.items ≤ 10000)
  pub field : (1 ≤ limits.field) × (limits.field ≤ 255)
  pub half : (64 ≤ limits.half) × (limits.half ≤ 4294967295)
