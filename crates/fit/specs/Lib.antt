pub mod FitJob
