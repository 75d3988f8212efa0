pub mod FaultsTold
