pub mod Living
