-- The call of document 01 that a declared request stands for, argument by argument.
use Rattle.theory.specs.Calls.{Call, c_attach, c_spawn, c_detach, c_check, c_leave, c_enter, c_make, c_load, c_store, c_copy, c_clear, c_put, c_get, c_same, c_shape}
use Rattle.perform.specs.declared.Request.{Request}
use Rattle.perform.specs.declared.Request.TheVariants.{Attach, Spawn, Detach, Check, Leave, Enter, Make, Load, Store, Copy, Clear, Put, Get, Same, Shape}

abbrev pub call_of : Request → Call
call_of (Attach k) = c_attach k
call_of (Spawn k p i) = c_spawn k p i
call_of (Detach k) = c_detach k
call_of (Check k) = c_check k
call_of (Leave k) = c_leave k
call_of (Enter k) = c_enter k
call_of (Make k d p n) = c_make k d p n
call_of (Load k d i f) = c_load k d i f
call_of (Store k i f j) = c_store k i f j
call_of (Copy k d i) = c_copy k d i
call_of (Clear k i) = c_clear k i
call_of (Put k i f v) = c_put k i f v
call_of (Get k i f) = c_get k i f
call_of (Same k i j) = c_same k i j
call_of (Shape k i) = c_shape k i
