-- Laws of shares and holdings, public to the crates above.
pub mod MoveLaws
